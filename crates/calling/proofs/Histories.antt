-- A list of calls made one after another to a book whose tables are lent in part: what holds after the first k of them, and at the end.
use Rattle.std.proofs.Common.{◌≡◌, ℕ, ◌+◌, ◌<◌, ◌≤◌, min, Bool, true, List, [], ◌∷◌, ◌++◌, length, get_or, take, drop, set, None, Ok, Err, Result, sym, refl, ap, subst, ◌∙◌, arith}
use Rattle.std.proofs.lemmas.Bool.Decides.{nat_tests}
use Rattle.std.proofs.lemmas.Grind.{drop_more_same}
use Rattle.std.proofs.lemmas.List.{map-append, take-append-drop, take_more, take_more_set, take_all, drop-set-lt, length-map, length-take}
use Rattle.refusals.specs.declared.Refusal.{Refusal}
use Rattle.refusals.specs.declared.Refusal.TheVariants.{Short}
use Rattle.schedule.specs.Clock.{Clock, lawful, cleared}
use Rattle.schedule.proofs.Cleared.{cleared-lawful, cleared_again}
use Rattle.design.specs.declared.nodes.Node.{Node}
use Rattle.design.specs.declared.couplings.Coupling.{Coupling}
use Rattle.design.specs.Table.{Loan, lent_in}
use Rattle.design.specs.Effects.{Beyond}
use Rattle.design.specs.SoFar.{Stands, Held}
use Rattle.design.proofs.Growing.{beyond_both}
use Rattle.design.proofs.Standing.{all_stand}
use Rattle.kinds.specs.declared.arrival.Arrival.{Arrival}
use Rattle.timing.specs.declared.windows.Window.{Window}
use Rattle.rules.specs.Questions.{Question, Lawful}
use Rattle.judging.specs.Theorems.{VerdictsAreRight}
use Rattle.windows.specs.declared.flags.Flag.{Flag}
use Rattle.states.specs.declared.OpenBook.{OpenBook}
use Rattle.states.specs.declared.stages.Editable.{Editable}
use Rattle.states.specs.Typed.{Opened}
use Rattle.states.specs.Views.{loan_of}
use Rattle.book.specs.declared.Book.{Book}
use Rattle.book.specs.declared.Book.TheVariants.{Draft}
use Rattle.book.specs.Views.{book_table}
use Rattle.calling.specs.declared.request.Reply.{Reply}
use Rattle.calling.specs.declared.request.LentRequest.{LentRequest}
use Rattle.calling.specs.Requests.{Requested, meant, LentRows, table_after, changes, so_far}
use Rattle.calling.specs.Applied.{ResultRows, rows_in, lent_rows, Applied}
use Rattle.calling.specs.Law.{CallLaw, ListLaw}
use Rattle.calling.specs.Runs.{lent_to, history, opened_with, run_refusal, Ran}
use Rattle.calling.proofs.Lending.{behind}
use Rattle.calling.proofs.Lists.{so_far_push, law_push}
use Rattle.calling.proofs.Calls.{all_lawful, rows_behind, call_made}

-- What holds after the first k calls of a list: the table is theirs, rows past those that are granted are as they were, the law holds of them, and places past their answers are as they were.
pub record Reached {R : Type 0} (meaning : R → Question → Bool) (loan : Loan) (clock : Clock) (old : ResultRows) (calls : List (LentRequest R)) (room : List (Result Reply Refusal)) (k : ℕ) (book : Book) (now : Loan) (said : List (Result Reply Refusal)) (new : ResultRows) : Type 0 where
  pub law : lawful clock ≡ true
  pub places : length calls ≤ length room
  pub table : book_table book now ≡ so_far (opened_with clock loan) (history meaning (lent_rows loan old) (take k calls))
  pub beyond : Beyond (book_table book now) loan now
  pub answers : ListLaw (opened_with clock loan) (history meaning (lent_rows loan old) (take k calls)) (take k said) old new
  pub rest : drop k said ≡ drop k room

-- before the first call
pub reached_none : {R : Type 0} (meaning : R → Question → Bool) (loan now : Loan) (clock : Clock) (old : ResultRows) (calls : List (LentRequest R)) (room : List (Result Reply Refusal)) (d : OpenBook Editable)
    → lent_in loan ≡ lent_in now → loan.nodes ≡ now.nodes → loan.couplings ≡ now.couplings
    → length calls ≤ length room → Opened loan clock now (Ok d) → Reached meaning loan clock old calls room 0 (Draft d) now room old
reached_none meaning loan now clock old calls room d lent nodes couplings places h =
    record { law = grind arith; places = places; table = grind arith; beyond = (grind arith, grind arith); answers = refl; rest = refl }

-- so far the table stands
reached_stands : {R : Type 0} {meaning : R → Question → Bool} {loan : Loan} {clock : Clock} {old : ResultRows} {calls : List (LentRequest R)} {room : List (Result Reply Refusal)} {k : ℕ} {book : Book} {now : Loan} {said : List (Result Reply Refusal)} {new : ResultRows}
    → Reached meaning loan clock old calls room k book now said new → Stands (book_table book now)
reached_stands {meaning = meaning} {loan = loan} {clock = clock} {old = old} {calls = calls} {k = k} ran =
    subst Stands (sym ran.table) (all_stand (cleared clock) (lent_in loan) (changes (history meaning (lent_rows loan old) (take k calls))) (cleared-lawful clock ran.law, cleared_again clock ran.law))

-- One call more, made with the front of each table.
pub reached_more : {R : Type 0} (meaning : R → Question → Bool) (loan : Loan) (clock : Clock) (old : ResultRows) (calls : List (LentRequest R)) (room : List (Result Reply Refusal)) (k : ℕ) (m : LentRequest R) (b b' : Book) (x x' : Clock) (ns ms : List Node) (ks js : List Coupling) (fs gs : List Flag) (ws vs : List Window) (cs ds : List Arrival) (a e i j p : ℕ) (said : List (Result Reply Refusal)) (r : Result Reply Refusal)
    → VerdictsAreRight → ((rule : R) → Lawful (meaning rule))
    → Reached meaning loan clock old calls room k b (loan_of x ns ks) said (rows_in fs ws cs)
    → k < length calls → m ≡ get_or calls k m
    → Applied b (loan_of x (take a ns) (take e ks)) (rows_in (take i fs) (take j ws) (take p cs)) (meant meaning m.request) b' (loan_of x' ms js) (rows_in gs vs ds) r
    → length ns ≡ length loan.nodes → length ks ≡ length loan.couplings → length fs ≡ length old.flags → length ws ≡ length old.windows → length cs ≡ length old.column → length said ≡ length room
    → a ≡ min m.nodes (length ns) → e ≡ min m.couplings (length ks) → i ≡ min m.flags (length fs) → j ≡ min m.windows (length ws) → p ≡ min m.column (length cs)
    → length ms ≡ length (take a ns) → length js ≡ length (take e ks)
    → Reached meaning loan clock old calls room (k + 1) b' (loan_of x' (ms ++ drop a ns) (js ++ drop e ks)) (set said k r) (rows_in (gs ++ drop i fs) (vs ++ drop j ws) (ds ++ drop p cs))
reached_more meaning loan clock old calls room k m b b' x x' ns ms ks js fs gs ws vs cs ds a e i j p said r right lawful ran lt at applied longNodes longCouplings longFlags longWindows longColumn long few fewToo fewFlags fewWindows fewColumn same sameToo =
    let front = loan_of x' ms js in
    let after = rows_in gs vs ds in
    let behind_them = rows_in (drop i fs) (drop j ws) (drop p cs) in
    let all = lent_rows loan old in
    let part = loan_of x (take a ns) (take e ks) in
    let before = rows_in (take i fs) (take j ws) (take p cs) in
    let o = opened_with clock loan in
    let now = loan_of x ns ks in
    let next = behind front (drop a ns) (drop e ks) in
    let past = history meaning all (take k calls) in
    let held : Held (cleared clock) = (cleared-lawful clock ran.law, cleared_again clock ran.law) in
    let nodes = take-append-drop a ns in
    let couplings = take-append-drop e ks in
    let flags = take-append-drop i fs in
    let windows = take-append-drop j ws in
    let column = take-append-drop p cs in
    let done = rw (nodes, couplings, flags, windows, column) at (call_made b b' part front (drop a ns) (drop e ks) (cleared clock) (lent_in loan) (changes past) (meant meaning m.request) before after behind_them r right (all_lawful meaning lawful m.request) held (rw (nodes, couplings) ran.table) same sameToo applied) in
    let lent : lent_rows part before ≡ lent_to all m = grind (arith, length-take) in
    let next_call : take (k + 1) calls ≡ take k calls ++ m ∷ [] = take_more calls k m lt ∙ ap (λ q. take k calls ++ q ∷ []) (sym at) in
    let more : history meaning all (take (k + 1) calls) ≡ past ++ (lent_to all m, meant meaning m.request) ∷ [] = simp (next_call, map-append) in
    let call : LentRows × Requested = (lent_to all m, meant meaning m.request) in
    let wrote : take (k + 1) (set said k r) ≡ take k said ++ r ∷ [] = take_more_set said k r (omega arith) in
    let law : CallLaw (so_far o past) call (rows_in fs ws cs) (rows_behind after behind_them) r = rw (ran.table, lent) at done.law in
    record {
      law = ran.law;
      places = ran.places;
      table = done.made ∙ ap (λ t. table_after t (lent_rows part before, meant meaning m.request)) ran.table ∙ ap (λ l. table_after (so_far o past) (l, meant meaning m.request)) lent ∙ sym (so_far_push o past call) ∙ ap (so_far o) (sym more);
      beyond = beyond_both (book_table b now) (book_table b' next) loan now next done.keeps ran.beyond done.beyond;
      answers = rw (more, wrote) (law_push o past (take k said) call r old _ _ ran.answers law);
      rest = drop-set-lt (k + 1) said k r (omega arith) ∙ drop_more_same said room k ran.rest;
    }

-- after all the calls
pub reached_all : {R : Type 0} {meaning : R → Question → Bool} {loan : Loan} {clock : Clock} {old : ResultRows} {calls : List (LentRequest R)} {room : List (Result Reply Refusal)} {k : ℕ} {book : Book} {now : Loan} {said : List (Result Reply Refusal)} {new : ResultRows}
    → Reached meaning loan clock old calls room k book now said new → k ≡ length calls
    → Ran loan clock (history meaning (lent_rows loan old) calls) room old now said new (Ok book)
reached_all {meaning = meaning} {loan = loan} {clock = clock} {old = old} {calls = calls} {room = room} {k = k} ran end =
    let all : take k calls ≡ calls = take_all k calls (omega arith) in
    let long : length (history meaning (lent_rows loan old) calls) ≡ length calls = simp length-map in
    let free : run_refusal clock (length (history meaning (lent_rows loan old) calls)) (length room) ≡ None = grind (arith, nat_tests, ran.law, ran.places) in
    (free, rw all at ran.table, reached_stands ran, ran.beyond, rw long (rw (all, end) at ran.answers), rw long (rw end at ran.rest))

-- where there are fewer places for answers than calls
pub too_few : {R : Type 0} (meaning : R → Question → Bool) (all : LentRows) (loan : Loan) (clock : Clock) (old : ResultRows) (calls : List (LentRequest R)) (room : List (Result Reply Refusal))
    → lawful clock ≡ true → length room < length calls → Ran loan clock (history meaning all calls) room old loan room old (Err Short)
too_few meaning all loan clock old calls room law few =
    let long : length (history meaning all calls) ≡ length calls = simp length-map in
    (grind (arith, nat_tests), refl, refl, refl)
