-- Replies one after another: one line more, and all of them.
use Rattle.std.proofs.Common.{◌≡◌, ℕ, ◌+◌, ◌≤◌, List, [], ◌∷◌, ◌++◌, length, take, drop, Some, None, Ok, Err, Option, Result, IsOk, refl, sym, ap, ◌∙◌, subst, arith}
use Rattle.std.proofs.lemmas.List.{append_assoc, append-nil, length-append, length-take-le, take_at, drop-drop}
use Rattle.std.proofs.lemmas.List.Sums.{sum_by-cons}
use borrow.Rule.Slice.PartMut.{put_mid}
use Rattle.refusals.specs.declared.Refusal.{Refusal}
use Rattle.text.specs.Lines.{lines_of}
use Rattle.text.proofs.Spelled.{length_line}
use Rattle.frames.specs.declared.rules.Rule.{Rule}
use Rattle.reading.specs.Line.{line_frame}
use Rattle.design.specs.declared.tables.Tables.{Tables}
use Rattle.design.specs.Table.{State, draft, sealed, Loan, loan_in, SameTables}
use Rattle.reporting.specs.Report.{WrittenAt}
use Rattle.reporting.proofs.Joins.{written_then}
use Rattle.states.specs.declared.counts.Counts.{Counts}
use Rattle.states.specs.Views.{table_of}
use Rattle.states.proofs.Seen.{length-first}
use Rattle.book.specs.declared.Book.{Book}
use Rattle.book.specs.declared.Book.TheVariants.{Unopened, Draft, Sealed}
use Rattle.book.specs.Views.{book_table}
use Rattle.calling.specs.declared.request.Reply.{Reply}
use Rattle.calling.specs.declared.request.Results.{Results}
use Rattle.calling.specs.Applied.{ResultRows, lent_rows, results_in, SameResults}
use Rattle.session.specs.Printing.{bytes_for, rule_asked, PrintsAll}
use Rattle.session.specs.Replies.{longest_reply, text_for, LineDone, IsSoFar, Replied}
use Rattle.session.proofs.Printed.{few_bytes, changed_line, done_printed}
use Rattle.session.proofs.Reaching.{lines_keep_so_far}
use Rattle.printing.specs.Room.{most_reply, most_asked, most_printed, room_of, room_for}
use Rattle.printing.specs.Replies.{RepliesAll, LineReplied, TextReplied}

-- no open book has a longer reply than the longest one
few_rows : (state : State) (n : Counts) (loan : Loan) → longest_reply (table_of state n loan) ≤ most_reply
few_rows state n loan = grind (arith, length-first)

-- nor has any book
pub longest_fits : (b : Book) (loan : Loan) → longest_reply (book_table b loan) ≤ most_reply
longest_fits Unopened loan = omega arith
longest_fits (Draft d) loan = few_rows draft d.counts loan
longest_fits (Sealed s) loan = few_rows sealed s.counts loan

-- so where there is room for it, a line is answered
pub reply_granted : (b b' : Book) (loan loan' : Loan) (rows rows' : ResultRows) (line old new : List ℕ) (result : Result ℕ Refusal) → most_reply ≤ length old → Replied b loan rows line old b' loan' rows' new result → IsOk result
reply_granted b b' loan loan' rows rows' line old new (Ok n) room h = refl
reply_granted b b' loan loan' rows rows' line old new (Err why) room h = absurd (omega (arith, longest_fits b loan, h.0))

-- no reply is longer than the most that is printed for its line
reply_fits : (asked : Option Rule) (b b' : Book) (loan loan' : Loan) (rows rows' : ResultRows) (line : List ℕ) (r : Result Reply Refusal) (n : ℕ)
    → LineDone asked b loan rows line b' loan' rows' r → n ≡ length (text_for (book_table b loan) rows' r) → n ≤ most_reply → n ≤ most_asked asked
reply_fits None b b' loan loan' rows rows' line r n (a, e, taken, same) is few =
    omega (arith, ap (λ r. length (text_for (book_table b loan) rows' r)) e, ap length (changed_line (book_table b loan) rows' a), length_line (bytes_for a), few_bytes a)
reply_fits (Some rule) b b' loan loan' rows rows' line r n done is few = few

-- a line that is answered where there is room for every reply
pub reply_made : (b b' : Book) (loan loan' : Loan) (rows rows' : ResultRows) (line old new : List ℕ) (n : ℕ) → length new ≡ length old → Replied b loan rows line old b' loan' rows' new (Ok n) → LineReplied b loan rows line b' loan' rows' new n
reply_made b b' loan loan' rows rows' line old new n same (room, fits, (r, done, put), prints) =
    let text = text_for (book_table b loan) rows' r in
    let asked = rule_asked (line_frame line) in (
      omega arith,
      reply_fits asked b b' loan loan' rows rows' line r n done put.0 (omega (arith, longest_fits b loan)),
      (r, done, ap (take n) put.1 ∙ take_at text (drop n old) n (sym put.0)),
      λ far. (subst IsSoFar (done_printed asked b b' loan loan' rows rows' line r refl done far).1 (lines_keep_so_far (lent_rows loan rows) (book_table b loan) line far), prints far),
    )

-- tables that are the same have as many rows
pub kept_rows : (t t' : Tables) (r r' : Results) → SameTables t t' → SameResults r r' → lent_rows (loan_in t') (results_in r') ≡ lent_rows (loan_in t) (results_in r)
kept_rows t t' r r' (_, _, _, rows) (_, _, _, flags, windows, column) =
    λ i. record { nodes = (rows i).nodes; couplings = (rows i).couplings; flags = flags i; windows = windows i; column = column i }

-- Lines that are still to be answered, of a text whose other lines are: what is printed so far, and that with what is printed for those lines the whole text is answered.
module _ (b0 : Book) (loan0 : Loan) (rows0 : ResultRows) (text : List ℕ) (place : ℕ) (old : List ℕ) where
  pub record Replying (others : List (List ℕ)) (b : Book) (loan : Loan) (rows : ResultRows) (out : List ℕ) (end : ℕ) : Type 0 where
    pub printed : List ℕ
    pub fits : length printed + room_of others ≤ room_for text
    pub stands : WrittenAt printed place old out (Ok end)
    pub rows_same : lent_rows loan rows ≡ lent_rows loan0 rows0
    pub replies : (b' : Book) (loan' : Loan) (rows' : ResultRows) (rest : List ℕ) → RepliesAll b loan rows others b' loan' rows' rest → RepliesAll b0 loan0 rows0 (lines_of text) b' loan' rows' (printed ++ rest)
    pub so_far : IsSoFar (book_table b0 loan0) → IsSoFar (book_table b loan)
    pub prints : IsSoFar (book_table b0 loan0) → (rest : List ℕ) → PrintsAll (lent_rows loan0 rows0) (book_table b loan) others rest → PrintsAll (lent_rows loan0 rows0) (book_table b0 loan0) (lines_of text) (printed ++ rest)

  -- one line more is answered
  pub one_more : (others : List (List ℕ)) (line : List ℕ) (rest : List (List ℕ)) (b b' : Book) (loan loan' : Loan) (rows rows' : ResultRows) (out out' room : List ℕ) (end n : ℕ)
      → others ≡ line ∷ rest → length out ≡ length old → place + room_for text ≤ length old → lent_rows loan' rows' ≡ lent_rows loan rows
      → Replying others b loan rows out end → LineReplied b loan rows line b' loan' rows' room n → (m : ℕ) (xs : List ℕ) → m ≡ n → xs ≡ take n room → out' ≡ put_mid end m out xs
      → Replying rest b' loan' rows' out' (end + n)
  one_more others line rest b b' loan loan' rows rows' out out' room end n is same enough kept h (within, fits, (r, done, reply), prints) m xs width copied put =
      let count : room_of others ≡ most_printed line + room_of rest = ap room_of is ∙ sum_by-cons most_printed line rest in
      let first = h.fits in
      let stood = h.stands in
      let long = length-take-le n room within in
      let more = length-append h.printed (take n room) in record {
        printed = h.printed ++ take n room;
        fits = omega arith;
        stands = written_then h.printed (take n room) place end (end + n) old out out' same (omega arith) stood (ap (λ k. end + k) (sym long), put ∙ rw (width, copied) (ap (λ l. take end out ++ (take n room ++ l)) (drop-drop n end out)));
        rows_same = kept ∙ h.rows_same;
        replies = λ b'' loan'' rows'' last chain.
            rw append_assoc
            (h.replies b'' loan'' rows'' (take n room ++ last) (rw is (b', loan', rows', r, last, done, ap (λ l. l ++ last) reply, chain)));
        so_far = λ far. (prints (h.so_far far)).0;
        prints = λ far last p.
            let here = (prints (h.so_far far)).1 rest last (subst (λ l. PrintsAll l (book_table b' loan') rest last) (sym h.rows_same) p) in
            rw append_assoc (h.prints far (take n room ++ last) (rw is (subst (λ l. PrintsAll l (book_table b loan) (line ∷ rest) (take n room ++ last)) h.rows_same here)));
      }

  -- every line is answered
  pub ended : (b : Book) (loan : Loan) (rows : ResultRows) (out : List ℕ) (end : ℕ) (others : List (List ℕ)) → others ≡ [] → Replying others b loan rows out end → TextReplied b0 loan0 rows0 text place old b loan rows out end
  ended b loan rows out end others none h = (
    h.printed,
    omega (arith, h.fits),
    h.stands,
    rw append-nil at (h.replies b loan rows [] (rw none (refl, refl, refl, refl))),
    λ far. rw append-nil at (h.prints far [] (rw none refl)),
  )
