-- The feed frames of a table that stands feed its latches again.
use Rattle.std.proofs.Common.{◌≡◌, ℕ, ◌<◌, ◌≤◌, List, [], ◌∷◌, ◌++◌, map, length, get_or, Some, None, refl, ap, arith}
use Rattle.std.specs.List.{All}
use Rattle.std.proofs.lemmas.List.{take_all, append-nil, append_assoc, length-append, length-map, get_or_at, set_at}
use Rattle.std.proofs.lemmas.List.Elements.{All-append, All-map}
use Rattle.std.proofs.lemmas.Bool.Decides.{nat_tests}
use Rattle.schedule.specs.Clock.{Clock}
use Rattle.design.specs.declared.nodes.Node.{Node}
use Rattle.design.specs.declared.nodes.Node.TheVariants.{Free, Input, Gate, Latch}
use Rattle.design.specs.Table.{Lent, most_nodes}
use Rattle.design.specs.Calls.{feed}
use Rattle.design.specs.Effects.{put}
use Rattle.design.specs.SoFar.{RowStands}
use Rattle.loading.specs.Writing.{feed_frame, feed_frames}
use Rattle.loading.proofs.Outcomes.{Makes, makes_none, makes_one, makes_each}
use Rattle.loading.proofs.NodeRows.{drafted, unfed, IsNode, live_parts}

-- the feed of one row, among rows before it and rows behind it
pub load_feed : (c : Clock) (l : Lent) (count : ℕ) (done : List Node) (x : Node) (behind : List Node) → All IsNode (done ++ unfed x ∷ behind) → length (done ++ unfed x ∷ behind) ≡ count → count ≤ l.nodes → count ≤ most_nodes → RowStands c count (length done) x
    → Makes l (drafted c l (done ++ unfed x ∷ behind) []) (feed_frame (length done) x) (drafted c l (done ++ x ∷ behind) [])
load_feed c l count done Free behind all len lent most h = absurd h
load_feed c l count done (Input phase earliest latest) behind all len lent most h = makes_none
load_feed c l count done (Gate phase least greatest sources) behind all len lent most h = makes_none
load_feed c l count done (Latch phase least greatest setup hold None) behind all len lent most h = makes_none
load_feed c l count done (Latch phase least greatest setup hold (Some source)) behind all len lent most h =
    let k = length done in
    let x = Latch phase least greatest setup hold None in
    let rows = done ++ x ∷ behind in
    let here : get_or rows k Free ≡ x = get_or_at done x behind Free k refl in
    let fed : put l (drafted c l rows []) (feed k source) ≡ drafted c l (done ++ Latch phase least greatest setup hold (Some source) ∷ behind) [] = rw (here, set_at done x behind (Latch phase least greatest setup hold (Some source)) k refl) in
    let below : k < length rows = omega (arith, length-append done (x ∷ behind)) in
    let from : source < length rows = omega (arith, h.3) in
    let lent-rows = take_all l.nodes rows (omega arith) in
    let node = all source Free from in
    makes_one (feed k source) (omega arith, grind (arith, nat_tests), tt) refl (grind (arith, nat_tests)) fed

-- all feed frames feed all latches that had a source
pub load_feeds : (c : Clock) (l : Lent) (xs : List Node) → ((k : ℕ) → k < length xs → RowStands c (length xs) k (get_or xs k Free)) → length xs ≤ l.nodes → length xs ≤ most_nodes → Makes l (drafted c l (map unfed xs) []) (feed_frames 0 xs) (drafted c l xs [])
load_feeds c l xs rows lent most = rw append-nil at
    (makes_each l (λ done left. drafted c l (done ++ map unfed left) []) feed_frame feed_frames Free (RowStands c (length xs)) xs (λ k. refl) (λ k y ys. refl) rows
    (λ done left x e below h.
    let parts = live_parts c l xs rows done (x ∷ left) e in
    let nodes = All-append IsNode done (map unfed (x ∷ left)) (λ k d h. (parts.0 k d h).0) (All-map IsNode unfed (x ∷ left) (λ k d h. (parts.1 k d h).1)) in
    let wide : length (done ++ unfed x ∷ map unfed left) ≡ length xs = omega (arith, ap length e, length-append done (x ∷ left), length-append done (unfed x ∷ map unfed left), length-map left unfed) in
    rw (append_assoc done (x ∷ []) (map unfed left)) (load_feed c l (length xs) done x (map unfed left) nodes wide lent most h))
    [] xs refl)
