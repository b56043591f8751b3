-- The node frames of a table that stands make its rows, with no latch fed.
use Rattle.std.proofs.Common.{◌≡◌, ℕ, ◌<◌, ◌≤◌, min, Bool, true, false, List, [], ◌∷◌, ◌++◌, map, length, get_or, Some, None, sym, refl, ap, arith}
use Rattle.std.specs.List.{flat_map, All}
use Rattle.std.proofs.lemmas.List.{map_push, take_all, length-map, take_at, drop_at}
use Rattle.std.proofs.lemmas.List.Folds.{list_any_none}
use Rattle.std.proofs.lemmas.List.Elements.{All-from_get_or, All-map, All-take, All-drop}
use Rattle.std.proofs.lemmas.Bool.Decides.{nat_tests}
use Rattle.schedule.specs.Clock.{Clock}
use Rattle.frames.specs.Frames.{bytes_in}
use Rattle.frames.proofs.Writing.{bytes_in-length}
use Rattle.design.specs.declared.nodes.Node.{Node}
use Rattle.design.specs.declared.nodes.Node.TheVariants.{Free, Input, Gate, Latch}
use Rattle.design.specs.declared.couplings.Coupling.{Coupling}
use Rattle.design.specs.Rows.{sources_in, is_node}
use Rattle.design.specs.Table.{Table, Lent, draft, most_nodes, most_couplings}
use Rattle.design.specs.Calls.{input, gate, latch}
use Rattle.design.specs.Tests.{is_other, any_other}
use Rattle.design.specs.SoFar.{RowStands}
use Rattle.loading.specs.Writing.{node_frame}
use Rattle.loading.proofs.Items.{bytes_items, length_items, sources_back}
use Rattle.loading.proofs.Outcomes.{Makes, makes_one, makes_each}

-- a draft under a clock that takes as many rows as are lent, up to the most
abbrev pub drafted : Clock → Lent → List Node → List Coupling → Table
drafted c l xs ks = record { clock = c; state = draft; nodes = xs; couplings = ks; node_room = min l.nodes most_nodes; coupling_room = min l.couplings most_couplings }

-- a row as its node frame makes it: a latch has no source
abbrev pub unfed : Node → Node
unfed Free = Free
unfed (Input phase earliest latest) = Input phase earliest latest
unfed (Gate phase least greatest sources) = Gate phase least greatest sources
unfed (Latch phase least greatest setup hold source) = Latch phase least greatest setup hold None

-- a row that holds a node
abbrev pub IsNode : Node → Type 0
IsNode x = is_node x ≡ true

-- and does so without its source too
abbrev pub Live : Node → Type 0
Live x = IsNode x × IsNode (unfed x)

-- a row that stands does
pub live_row : (c : Clock) (count k : ℕ) (x : Node) → RowStands c count k x → Live x
live_row c count k x h = (grind arith, grind arith)

-- a node that is there, in a row that is lent and of an allowed kind, is no other
pub no_other : (allowed : Node → Bool) (l : Lent) (t : Table) (k : ℕ) → length t.nodes ≤ l.nodes → k < length t.nodes → allowed (get_or t.nodes k Free) ≡ true → is_other allowed l t k ≡ false
no_other allowed l t k lent lt is = let rows = take_all l.nodes t.nodes lent in grind (arith, nat_tests)

-- no source is other than a node, where all rows are nodes and the sources are below their count
no_others : (l : Lent) (t : Table) (ks : List ℕ) → length t.nodes ≤ l.nodes → All IsNode t.nodes → ((i : ℕ) → i < length ks → get_or ks i 0 < length t.nodes) → any_other is_node l t ks ≡ false
no_others l t ks lent all below =
    list_any_none (is_other is_node l t) ks
    (All-from_get_or (λ k. is_other is_node l t k ≡ false) ks 0
    (λ i h. let lt = below i h in no_other is_node l t (get_or ks i 0) lent lt (all (get_or ks i 0) Free lt)))

-- one node frame makes one row
pub load_node : (c : Clock) (l : Lent) (count : ℕ) (xs : List Node) (x : Node) → c.phases ≤ 16 → All IsNode xs → length xs < l.nodes → length xs < most_nodes → RowStands c count (length xs) x
    → Makes l (drafted c l xs []) (node_frame x) (drafted c l (xs ++ unfed x ∷ []) [])
load_node c l count xs Free few all lent most h = absurd h
load_node c l count xs (Input phase earliest latest) few all lent most h =
    makes_one (input phase earliest latest) (grind (arith, nat_tests), grind (arith, nat_tests), tt) refl (grind (arith, nat_tests)) refl
load_node c l count xs (Gate phase least greatest sources) few all lent most h =
    let ks = sources_in sources in
    let len = length_items (bytes_in 2) 2 ks (bytes_in-length 2) in
    let nodes = no_others l (drafted c l xs []) ks (omega arith) all h.3 in
    makes_one (gate phase least greatest ks)
    (grind (arith, nat_tests), grind (arith, nat_tests), bytes_items (bytes_in 2) ks (λ x. omega arith))
    (ap (λ ys. Some (gate phase least greatest ys)) (sources_back ks (λ i lt. omega (arith, h.3 i lt))))
    (grind (arith, nat_tests))
    (ap (λ s. drafted c l (xs ++ Gate phase least greatest s ∷ []) []) (sym h.2))
load_node c l count xs (Latch phase least greatest setup hold source) few all lent most h =
    makes_one (latch phase least greatest setup hold) (grind (arith, nat_tests), grind (arith, nat_tests), tt) refl (grind (arith, nat_tests)) refl

-- Where the rows of a list stand.
module _ (c : Clock) (l : Lent) (xs : List Node) (rows : (k : ℕ) → k < length xs → RowStands c (length xs) k (get_or xs k Free)) where
  -- each holds a node, in both of two parts of the list
  pub live_parts : (done left : List Node) → done ++ left ≡ xs → All Live done × All Live left
  live_parts done left e =
      let all : All Live (done ++ left) = rw e (All-from_get_or Live xs Free (λ k h. live_row c (length xs) k (get_or xs k Free) (rows k h))) in
      (rw (take_at done left (length done) refl) at (All-take Live (length done) (done ++ left) all), rw (drop_at done left (length done) refl) at (All-drop Live (length done) (done ++ left) all))

  -- all node frames make all rows
  pub load_nodes : c.phases ≤ 16 → length xs ≤ l.nodes → length xs ≤ most_nodes → Makes l (drafted c l [] []) (flat_map node_frame xs) (drafted c l (map unfed xs) [])
  load_nodes few lent most =
      makes_each l (λ done left. drafted c l (map unfed done) []) (λ k x. node_frame x) (λ k ys. flat_map node_frame ys) Free (RowStands c (length xs)) xs (λ k. refl) (λ k y ys. refl) rows
      (λ done left x e below h.
      let nodes = All-map IsNode unfed done (λ k d h. ((live_parts done (x ∷ left) e).0 k d h).1) in
      let wide : length (map unfed done) ≡ length done = length-map done unfed in
      rw (map_push unfed done x) (load_node c l (length xs) (map unfed done) x few nodes (omega arith) (omega arith) (rw wide h)))
      [] xs refl
