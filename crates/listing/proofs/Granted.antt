-- The text of a table whose rows are the first of those lent: where it is refused, and where it is written.
use Rattle.std.proofs.Common.{◌≡◌, ℕ, zero, suc, ◌+◌, ◌<◌, ◌≤◌, Bool, true, false, ◌||◌, ltb, ◌⊎◌, List, [], ◌∷◌, ◌++◌, map, length, take, drop, Ok, Err, sym, refl, ap, ◌∙◌, arith}
use Rattle.std.specs.List.{flat_map}
use Rattle.std.proofs.lemmas.Bool.Decides.{nat_tests}
use Rattle.refusals.specs.declared.Refusal.TheVariants.{Short}
use Rattle.schedule.specs.Clock.{Clock}
use Rattle.frames.specs.Frames.{Content}
use Rattle.design.specs.declared.nodes.Node.{Node}
use Rattle.design.specs.declared.nodes.Node.TheVariants.{Free}
use Rattle.design.specs.declared.couplings.Coupling.{Coupling}
use Rattle.design.specs.Rows.{no_coupling}
use Rattle.design.specs.Table.{Table, Loan, draft, lent_in, first}
use Rattle.design.proofs.Standing.{all_stand}
use Rattle.states.specs.declared.counts.Counts.{Counts}
use Rattle.states.specs.Views.{table_of}
use Rattle.states.proofs.Seen.{first_taken, short_seen}
use Rattle.loading.specs.Writing.{schedule_frame, node_frame, feed_frames, couple_frame, frames_of, lines_for, text_of}
use Rattle.loading.specs.Rebuilding.{AllRebuild}
use Rattle.loading.proofs.Rebuild.{stands_rebuild}
use Rattle.listing.specs.declared.lines.Listing.{Listing}
use Rattle.listing.specs.Appending.{greatest_end, end_with, Appends}
use Rattle.listing.specs.Listed.{WrittenTo}

-- the first rows of both lent tables, as many as are granted
pub record Granted (n : Counts) (loan : Loan) (xs : List Node) (ks : List Coupling) : Type 0 where
  pub has_nodes : n.nodes ≤ length loan.nodes
  pub nodes : xs ≡ take n.nodes loan.nodes
  pub has_couplings : n.couplings ≤ length loan.couplings
  pub couplings : ks ≡ take n.couplings loan.couplings

-- the frames of a clock, of nodes and of couplings
abbrev frames_for : Clock → List Node → List Coupling → List Content
frames_for c xs ks = schedule_frame c ∷ (flat_map node_frame xs ++ (feed_frames 0 xs ++ map couple_frame ks))

-- a table too short for the rows that are granted
short_true : (a b x y : ℕ) (rest : Bool) → (x < a) ⊎ (y < b) → ((ltb x (a + 0) || ltb y (b + 0)) || rest) ≡ true
short_true a b x y rest h = grind (arith, nat_tests)

-- a buffer too short for the text
long_true : (short : Bool) (room size : ℕ) → room < size → (short || ltb room size) ≡ true
long_true short room size h = grind (arith, nat_tests)

-- room for all
fit_false : (a b x y room size : ℕ) → a ≤ x → b ≤ y → size ≤ room → ((ltb x (a + 0) || ltb y (b + 0)) || ltb room size) ≡ false
fit_false a b x y room size ha hb hs = grind (arith, nat_tests)

module _ (n : Counts) (loan : Loan) where
  -- the table that is written
  abbrev table : Table
  table = table_of draft n loan

  -- refused for want of rows
  pub refused_short : (old : List ℕ) → (length loan.nodes < n.nodes) ⊎ (length loan.couplings < n.couplings) → WrittenTo (lent_in loan) (table_of draft n loan) old old (Err Short)
  refused_short old h = (
    ap (λ b. b || ltb (length old) (length (text_of table))) (short_seen draft n loan 0 0) ∙ short_true n.nodes n.couplings (length loan.nodes) (length loan.couplings) (ltb (length old) (length (text_of table))) h,
    refl,
    refl,
  )

  module _ {xs : List Node} {ks : List Coupling} (rows : Granted n loan xs ks) where
    -- the frames that are written
    abbrev frames : List Content
    frames = frames_for loan.schedule xs ks

    -- they are those of the table
    frames_are : frames ≡ frames_of table
    frames_are =
        ap (λ xs. frames_for loan.schedule xs ks) (rows.nodes ∙ sym (first_taken Free n.nodes loan.nodes rows.has_nodes))
        ∙ ap (frames_for loan.schedule (first Free n.nodes loan.nodes)) (rows.couplings ∙ sym (first_taken no_coupling n.couplings loan.couplings rows.has_couplings))

    -- refused for want of bytes, after a pass that counts them
    pub refused_long : (old : List ℕ) (s t : Listing) → s.end ≡ 0 → Appends frames s t → length old < greatest_end → length old < t.end
        → WrittenTo (lent_in loan) (table_of draft n loan) old old (Err Short)
    refused_long old s t none counts low long =
        let text = ap (λ fs. length (lines_for fs)) frames_are in
        let counted = counts.counted in
        (long_true _ (length old) (length (text_of table)) (omega arith), refl, refl)

    -- written, after a pass that counts the bytes
    pub written_text : (old : List ℕ) (s t u v : Listing) → s.end ≡ 0 → Appends frames s t → length old < greatest_end → t.end ≤ length old
        → u.end ≡ 0 → u.out.now ≡ old → Appends frames u v
        → WrittenTo (lent_in loan) (table_of draft n loan) old v.out.now (Ok v.end)
    written_text old s t u v none counts low fits begun same puts =
        let text = ap (λ fs. length (lines_for fs)) frames_are in
        let counted = counts.counted in
        let put = puts.counted in
        let whole : length (text_of table) ≤ length old = omega arith in
        let end : v.end ≡ length (text_of table) = omega arith in
        let at : end_with frames u ≡ v.end = omega arith in (
          ap (λ b. b || ltb (length old) (length (text_of table))) (short_seen draft n loan 0 0)
              ∙ fit_false n.nodes n.couplings (length loan.nodes) (length loan.couplings) (length old) (length (text_of table)) rows.has_nodes rows.has_couplings whole,
          end,
          puts.written (omega arith) (omega (arith, ap length same)) ∙ rw (at, begun, same) (ap (λ fs. lines_for fs ++ drop v.end old) frames_are),
        )

-- every table so far is rebuilt by its text
pub all_rebuild : AllRebuild
all_rebuild clock lent calls held = stands_rebuild _ (all_stand clock lent calls held)
