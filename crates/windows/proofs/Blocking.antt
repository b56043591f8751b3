-- Sets of blocks, and which blocks lead to which.
use Rattle.std.proofs.Common.{◌≡◌, ℕ, ◌+◌, ◌<◌, ◌≤◌, Bool, true, false, ◌||◌, ◌⊎◌, List, Option, Some, None, length, get_or, drop, replicate, refl, inl, inr, ⊎_elim, arith}
use Rattle.std.proofs.lemmas.List.{get_or-replicate, length-replicate, get_or_past, drop_more, drop_all}
use Rattle.std.proofs.lemmas.Bool.{cases_lt}
use Rattle.design.specs.declared.nodes.Node.{Node}
use Rattle.paths.specs.Networks.{IsIn}
use Rattle.timing.specs.Connections.{row, fed_from}
use Rattle.windows.specs.declared.blocks.Leads.{Leads}
use Rattle.windows.specs.declared.blocks.Blocks.{Blocks}
use Rattle.windows.specs.Blocks.{block_of, blocks_of, has_block, led_from, IsNext}

-- a number below the next one is below this one or is it
pub below_next : (v w : ℕ) → v < w + 1 → (v < w) ⊎ (v ≡ w)
below_next v w lt = ⊎_elim (λ (l : v < w). inl l) (λ (l : w ≤ v). inr (omega arith)) (cases_lt v w)

-- a set without members has none
pub none_has : (n b : ℕ) → get_or (replicate n false) b false ≡ false
none_has n b = ⊎_elim (λ (l : b < n). get_or-replicate n b false false l) (λ (l : n ≤ b). get_or_past (replicate n false) b false (rw length-replicate l)) (cases_lt b n)

-- the members of another set below a number are added
pub record Joined (old other new : List Bool) (i : ℕ) : Type 0 where
  pub long : length new ≡ length old
  pub done : (b : ℕ) → b < i → get_or new b false ≡ (get_or old b false || get_or other b false)
  pub rest : (b : ℕ) → i ≤ b → get_or new b false ≡ get_or old b false

-- the block from which on a loop goes over a set of blocks: its next one, or the end
abbrev pub reached : ℕ → Option ℕ → ℕ
reached to None = to
reached to (Some b) = b

-- the next block, if there is one, is in the set and below the end
abbrev pub IsHere : Blocks → ℕ → Option ℕ → Type 0
IsHere blocks to None = Unit {0}
IsHere blocks to (Some b) = (b < to) × (has_block blocks b ≡ true)

-- a block that is found by looking for the next one is such
pub here_next : (blocks : Blocks) (from to : ℕ) (o : Option ℕ) → IsNext blocks from to o → IsHere blocks to o
here_next blocks from to None h = tt
here_next blocks from to (Some b) h = (h.1, h.2)

-- the blocks before the next one are not in the set
pub passed_next : (blocks : Blocks) (from to : ℕ) (o : Option ℕ) → IsNext blocks from to o → (b : ℕ) → b < reached to o → (b < from) ⊎ (has_block blocks b ≡ false)
passed_next blocks from to None h b lt = ⊎_elim (λ (l : b < from). inl l) (λ (l : from ≤ b). inr (h b l lt)) (cases_lt b from)
passed_next blocks from to (Some next) h b lt = ⊎_elim (λ (l : b < from). inl l) (λ (l : from ≤ b). inr (h.3 b l lt)) (cases_lt b from)

-- the next block from one on does not stand before it
pub next_behind : (blocks : Blocks) (from to : ℕ) (o : Option ℕ) → IsNext blocks from to o → from ≤ to → from ≤ reached to o
next_behind blocks from to None h le = le
next_behind blocks from to (Some b) h le = h.0

-- every node stands in one of the blocks that hold so many
pub in_blocks : (count v : ℕ) → v < count → block_of v < blocks_of count
in_blocks count v lt = omega arith

-- what is led to is stale
pub or_led : (a b : Bool) → b ≡ true → (a || b) ≡ true
or_led true b h = refl
or_led false b h = h

-- the connection from k to v is among the leads, or v stands behind k in its block
abbrev pub IsLed : Leads → ℕ → ℕ → Type 0
IsLed leads k v = k < 4096 → v < 4096 → ((block_of k ≡ block_of v) × (k < v)) ⊎ (has_block (led_from leads (block_of k)) (block_of v) ≡ true)

-- the connections to the nodes below a number are
pub record LedBelow (nodes : List Node) (leads : Leads) (i : ℕ) : Type 0 where
  pub led : (v : ℕ) → v < i → (k : ℕ) → IsIn k (fed_from (row nodes v)) → IsLed leads k v

-- and those to one node from the sources before a place in their list
pub record LedBefore (sources : List ℕ) (v : ℕ) (leads : Leads) (i : ℕ) : Type 0 where
  pub led : (k : ℕ) → IsIn k sources → IsIn k (drop i sources) ⊎ IsLed leads k v

-- leads that have grown
abbrev pub GrownLeads : Leads → Leads → Type 0
GrownLeads old new = (a b : ℕ) → has_block (led_from old a) b ≡ true → has_block (led_from new a) b ≡ true

still_led : (old new : Leads) → GrownLeads old new → (k v : ℕ) → IsLed old k v → IsLed new k v
still_led old new grown k v h lk lv =
    ⊎_elim
    (λ (b : (block_of k ≡ block_of v) × (k < v)). inl b)
    (λ (l : has_block (led_from old (block_of k)) (block_of v) ≡ true). inr (grown (block_of k) (block_of v) l))
    (h lk lv)

pub below_grown : {nodes : List Node} {i : ℕ} (old new : Leads) → GrownLeads old new → LedBelow nodes old i → LedBelow nodes new i
below_grown old new grown h = record { led = λ v lt k c. still_led old new grown k v (h.led v lt k c) }

-- one more source
pub before_more : {sources : List ℕ} {v i : ℕ} (old new : Leads) → GrownLeads old new → i < length sources → IsLed new (get_or sources i 0) v → LedBefore sources v old i → LedBefore sources v new (i + 1)
before_more {sources} {v} {i} old new grown lt here h =
    record {
      led = λ k c.
          ⊎_elim
          (λ (d : IsIn k (drop i sources)).
          let d' : (k ≡ get_or sources i 0) ⊎ IsIn k (drop (i + 1) sources) = rw (drop_more sources i 0 lt) at d in
          ⊎_elim
          (λ (e : k ≡ get_or sources i 0). inr (rw e here))
          (λ (r : IsIn k (drop (i + 1) sources)). inl r)
          d')
          (λ (l : IsLed old k v). inr (still_led old new grown k v l))
          (h.led k c);
    }

-- one more node
pub below_more_led : {nodes : List Node} {leads : Leads} {sources : List ℕ} {i j : ℕ} → sources ≡ fed_from (row nodes i) → length sources ≤ j → LedBelow nodes leads i → LedBefore sources i leads j → LedBelow nodes leads (i + 1)
below_more_led {nodes} {leads} {sources} {i} {j} e le h b =
    record {
      led = λ v lt k c.
          ⊎_elim
          (λ (l : v < i). h.led v l k c)
          (λ (e' : v ≡ i).
          let c' : IsIn k sources = rw (e, ← e') c in
          rw e' (⊎_elim
          (λ (d : IsIn k (drop j sources)). absurd (rw (drop_all j sources le) at d))
          (λ (l : IsLed leads k i). l)
          (b.led k c')))
          (below_next v i lt);
    }
