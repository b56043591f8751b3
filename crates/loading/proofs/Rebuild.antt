-- The text of a table that stands, loaded into a book that is not opened, makes the table again.
use Rattle.std.proofs.Common.{◌≡◌, ℕ, ◌+◌, ◌<◌, ◌≤◌, [], length, get_or, sym, ap, ◌∙◌, arith}
use Rattle.std.proofs.lemmas.List.{append-nil}
use Rattle.schedule.proofs.Lawful.{phases_bounds}
use Rattle.text.specs.Lines.{lines_of}
use Rattle.design.specs.declared.nodes.Node.TheVariants.{Free}
use Rattle.design.specs.Table.{Table, unopened_table}
use Rattle.design.specs.SoFar.{Stands}
use Rattle.loading.specs.Loading.{load_from}
use Rattle.loading.specs.Writing.{frames_of, text_of}
use Rattle.loading.specs.Rebuilding.{as_draft, Rebuilds}
use Rattle.loading.proofs.Outcomes.{Makes, makes_then}
use Rattle.loading.proofs.Opened.{load_schedule}
use Rattle.loading.proofs.NodeRows.{IsNode, live_row, load_nodes}
use Rattle.loading.proofs.Feeds.{load_feeds}
use Rattle.loading.proofs.Couples.{load_couples}

-- a table that stands is rebuilt by its text
pub stands_rebuild : (t : Table) → Stands t → Rebuilds t
stands_rebuild t s l before lent room =
    let c = t.clock in
    let xs = t.nodes in
    let ks = t.couplings in
    let most : length xs ≤ 4096 = omega (arith, s.node_count) in
    let live : (k : ℕ) → k < length xs → IsNode (get_or xs k Free) = λ k h. (live_row c (length xs) k (get_or xs k Free) (s.rows k h)).0 in
    let all : Makes l (unopened_table before) (frames_of t) (as_draft l t) =
    makes_then (load_schedule l before c s.held.0 s.held.1)
    (makes_then (load_nodes c l xs s.rows (phases_bounds c s.held.0).1 lent most)
    (makes_then (load_feeds c l xs s.rows lent most)
    (load_couples c l xs ks live lent most room (omega (arith, s.coupling_count)) s.pairs s.once s.within))) in
    let count : 0 + length (frames_of t) ≡ length (frames_of t) = omega arith in
    ap (λ text. load_from l 0 (unopened_table before) (lines_of text)) (sym (append-nil (text_of t))) ∙ all.goes 0 [] ∙ ap (λ n. load_from l n (as_draft l t) []) count
