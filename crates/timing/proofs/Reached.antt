-- Every node of a table that stands has a path.
use Rattle.std.proofs.Common.{◌≡◌, ℕ, zero, suc, ◌<◌, true, false, not, List, [], ◌∷◌, length, get_or, sym, refl, inl, arith}
use Rattle.std.proofs.lemmas.Bool.{and_parts, true≢false}
use Rattle.schedule.specs.Clock.{Clock}
use Rattle.design.specs.declared.nodes.Node.{Node}
use Rattle.design.specs.declared.nodes.Node.TheVariants.{Free, Input, Gate, Latch}
use Rattle.design.specs.Rows.{sources_in, has_fan, is_latch}
use Rattle.design.specs.Table.{Table}
use Rattle.design.specs.SoFar.{RowStands, Stands}
use Rattle.paths.specs.Networks.{Network, Path, start, step, IsIn, enters_none, is_short}
use Rattle.timing.specs.Connections.{row, network, fed_from, starts_paths}

-- a node at which paths start, or one that has a source before it and is no latch
data Comes (v : ℕ) (x : Node) : Type 0 where
  starts : starts_paths x ≡ true → Comes v x
  fed : (k : ℕ) → k < v → IsIn k (fed_from x) → is_latch x ≡ false → Comes v x

-- the first of a list of sources that has some
first_source : (v : ℕ) (ks : List ℕ) → has_fan ks ≡ true → ((i : ℕ) → i < length ks → get_or ks i 0 < v) → (k : ℕ) × (k < v) × IsIn k ks
first_source v [] fan below = absurd (true≢false (sym fan))
first_source v (k ∷ ks) fan below = (k, below 0 (omega arith), inl refl)

-- each row that stands is of one of these
row_comes : (c : Clock) (n v : ℕ) (x : Node) → RowStands c n v x → Comes v x
row_comes c n v Free h = absurd h
row_comes c n v (Input phase earliest latest) h = starts refl
row_comes c n v (Gate phase least greatest sources) h = let s = first_source v (sources_in sources) h.1 h.3 in fed s.0 s.1 s.2 refl
row_comes c n v (Latch phase least greatest setup hold source) h = starts refl

module _ (t : Table) (stands : Stands t) where
  -- a path that enters no latch, to a node whose sources before it have such paths
  free_by : (v : ℕ) → v < length t.nodes → ((k : ℕ) → k < v → (p : Path (network t.nodes) k) × (enters_none p ≡ true)) → Comes v (row t.nodes v) → (p : Path (network t.nodes) v) × (enters_none p ≡ true)
  free_by v lt before (starts o) = (start o, refl)
  free_by v lt before (fed k below c l) = let p = before k below in (step p.0 c, rw (l, p.1) refl)

  -- a path that enters no latch, to a node below a bound
  free_path : (bound v : ℕ) → v < bound → v < length t.nodes → (p : Path (network t.nodes) v) × (enters_none p ≡ true)
  free_path zero v below lt = absurd (omega arith)
  free_path (suc bound) v below lt =
      free_by v lt (λ k before. free_path bound k (omega arith) (omega arith)) (row_comes t.clock (length t.nodes) v (row t.nodes v) (stands.rows v lt))

  -- so every node has a path, and one that is no latch a short one
  pub has_path : (v : ℕ) → v < length t.nodes → Path (network t.nodes) v
  has_path v lt = (free_path (suc v) v (omega arith) lt).0

  -- a path that enters no latch is short
  free_short : {n : Network} {v : ℕ} (p : Path n v) → enters_none p ≡ true → is_short p ≡ true
  free_short (start o) e = refl
  free_short {n} {v} (step p c) e = (and_parts (not (n.is_latch v)) (enters_none p) e).1

  pub has_short_path : (v : ℕ) → v < length t.nodes → (p : Path (network t.nodes) v) × (is_short p ≡ true)
  has_short_path v lt = let p = free_path (suc v) v (omega arith) lt in (p.0, free_short p.0 p.1)
