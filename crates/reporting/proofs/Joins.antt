-- Lines written one behind another, and how long they are.
use Rattle.std.proofs.Common.{◌≡◌, ℕ, ◌+◌, ◌-◌, ◌*◌, ◌^◌, ◌<◌, ◌≤◌, min, List, [], ◌∷◌, ◌++◌, length, get_or, take, drop, Ok, Err, Result, flat_map, sym, refl, ap, ◌∙◌, subst, arith}
use Rattle.std.proofs.lemmas.List.{append_assoc, append-nil, length-append, length-take-le, take_more, take_at}
use Rattle.std.proofs.lemmas.List.Folds.{length-flat_map-take}
use Rattle.std.proofs.lemmas.Grind.{flat_map-append}
use Rattle.std.proofs.lemmas.Slice.{drop-append-drop}
use Rattle.refusals.specs.declared.Refusal.{Refusal}
use Rattle.refusals.specs.declared.Refusal.TheVariants.{Short}
use Rattle.text.specs.Spelling.{line_for, SpelledAt}
use Rattle.text.proofs.Spelled.{length_line}
use Rattle.timing.specs.declared.windows.Window.{Window}
use Rattle.judging.specs.declared.verdict.Judgement.{Judgement}
use Rattle.windows.specs.declared.flags.Flag.{Flag}
use Rattle.windows.specs.declared.flags.Flag.TheVariants.{Clear, Set}
use Rattle.reporting.specs.Report.{verdict_bytes, window_bytes, window_line, flag_line, windows_with, report_of, report_length, WrittenAt, Reported}

module _ {X : Type 0} (f : X → List ℕ) where
  -- the lines of one element more
  pub lines_more : (xs : List X) (k : ℕ) (d : X) → k < length xs → flat_map f (take (k + 1) xs) ≡ flat_map f (take k xs) ++ f (get_or xs k d)
  lines_more xs k d h =
      let item = get_or xs k d in
      ap (flat_map f) (take_more xs k d h) ∙ (flat_map-append f (take k xs) (item ∷ []) ∙ ap (λ l. flat_map f (take k xs) ++ l) (append-nil (f item)))

  -- the lines of elements that each have one of a width
  pub lines_long : (w : ℕ) (xs : List X) → ((x : X) → length (f x) ≡ w) → length (flat_map f xs) ≡ w * length xs
  lines_long w [] each = omega arith
  lines_long w (x ∷ xs) each = omega (arith, length-append (f x) (flat_map f xs), each x, lines_long w xs each)

-- a text, and then another behind it
pub written_then : (xs ys : List ℕ) (place end next : ℕ) (old mid new : List ℕ) → length mid ≡ length old → next ≤ length old → WrittenAt xs place old mid (Ok end) → WrittenAt ys end mid new (Ok next) → WrittenAt (xs ++ ys) place old new (Ok next)
written_then xs ys place end next old mid new same fits first then =
    let front = take place old ++ xs in
    let long = length-append xs ys in
    let wide : length front ≡ end = omega (arith, length-append (take place old) xs, length-take-le place old (omega arith), first.0, then.0) in
    let is : mid ≡ front ++ drop end old = first.1 ∙ sym (append_assoc (take place old) xs (drop end old)) in (
      omega (arith, first.0, then.0),
      then.1 ∙ rw (is, take_at front (drop end old) end wide, drop-append-drop end old front next (omega (arith, then.0)) wide) (simp append_assoc),
    )

-- one line more, spelled behind the others
pub line_more : (all xs bytes : List ℕ) (place end next : ℕ) (old mid new : List ℕ) → all ≡ xs ++ line_for bytes → length mid ≡ length old → WrittenAt xs place old mid (Ok end) → SpelledAt bytes end mid new (Ok next) → WrittenAt all place old new (Ok next)
line_more all xs bytes place end next old mid new is same first line =
    subst (λ l. WrittenAt l place old new (Ok next)) (sym is) (written_then xs (line_for bytes) place end next old mid new same (omega (arith, line.1, same)) first (line.0, line.2))

-- the next line does not end within the buffer, and so not all lines do
pub line_past : {X : Type 0} (f : X → List ℕ) (xs : List X) (k : ℕ) (d : X) (bytes : List ℕ) (place end : ℕ) (old mid new : List ℕ) (why : Refusal) → k < length xs → f (get_or xs k d) ≡ line_for bytes → length mid ≡ length old → WrittenAt (flat_map f (take k xs)) place old mid (Ok end) → SpelledAt bytes end mid new (Err why) → WrittenAt (flat_map f xs) place old new (Err why)
line_past f xs k d bytes place end old mid new why h is same first line =
    (omega (arith, length-flat_map-take f xs k d h, ap length is, first.0, line.0, same), line.1)

-- the line of a verdict, of a window and of a flag
verdict_long : (j : Judgement) → length (line_for (verdict_bytes j)) ≡ 31
verdict_long j = length_line (verdict_bytes j)

window_long : (w : Window) → length (window_line w) ≡ 33
window_long w = length_line (window_bytes w)

flag_long : (f : Flag) → length (flag_line f) ≡ 3
flag_long Clear = refl
flag_long Set = refl

-- a report is as long as counted
pub report_long : (j : Judgement) (windows : List Window) (flags : List Flag) → length (report_of j windows flags) ≡ report_length (length (windows_with j.verdict windows)) (length flags)
report_long j windows flags =
    let shown = windows_with j.verdict windows in
    omega (arith, length-append (line_for (verdict_bytes j)) (flat_map window_line shown ++ flat_map flag_line flags), length-append (flat_map window_line shown) (flat_map flag_line flags), verdict_long j, lines_long window_line 33 shown window_long, lines_long flag_line 3 flags flag_long)

-- The report of a judgement on a buffer, with the windows that are shown and how long the report is counted to be.
module _ (j : Judgement) (windows shown : List Window) (flags : List Flag) (old : List ℕ) (count : ℕ) (is : shown ≡ windows_with j.verdict windows) (counted : count ≡ min (report_length (length shown) (length flags)) (2 ^ 64 - 1)) where
  -- the length of the lines of a verdict, of windows and of flags
  lines_are : length (line_for (verdict_bytes j)) + (length (flat_map window_line shown) + length (flat_map flag_line flags)) ≡ report_length (length shown) (length flags)
  lines_are = omega (arith, verdict_long j, lines_long window_line 33 shown window_long, lines_long flag_line 3 flags flag_long)

  -- they are the report
  text_is : line_for (verdict_bytes j) ++ (flat_map window_line shown ++ flat_map flag_line flags) ≡ report_of j windows flags
  text_is = ap (λ ws. line_for (verdict_bytes j) ++ (flat_map window_line ws ++ flat_map flag_line flags)) is

  -- refused, since the buffer is shorter than counted
  pub refused_short : length old < count → Reported j windows flags old old (Err Short)
  refused_short few = (omega (arith, report_long j windows flags, ap length is), refl, refl)

  module _ (low : length old < 2 ^ 64 - 1) (enough : count ≤ length old) (bytes first : List ℕ) (end : ℕ) (are : bytes ≡ verdict_bytes j) (spelled : SpelledAt bytes 0 old first (Ok end)) where
    -- the line of the verdict is written
    verdict : SpelledAt (verdict_bytes j) 0 old first (Ok end)
    verdict = subst (λ bs. SpelledAt bs 0 old first (Ok end)) are spelled

    -- the windows end within the buffer
    pub windows_fit : (why : Refusal) (mid : List ℕ) → length first ≡ length old → WrittenAt (flat_map window_line shown) end first mid (Err why) → ⊥
    windows_fit why mid same past = absurd (omega (arith, lines_are, past.0, verdict.0))

    -- so do the flags, and the report is written
    pub reported : (r : Result ℕ Refusal) (mid new : List ℕ) (next : ℕ) → length first ≡ length old → length mid ≡ length old → WrittenAt (flat_map window_line shown) end first mid (Ok next) → WrittenAt (flat_map flag_line flags) next mid new r → Reported j windows flags old new r
    reported (Ok n) mid new next same same' middle last =
        let rest = written_then (flat_map window_line shown) (flat_map flag_line flags) end next n first mid new (same' ∙ sym same) (omega (arith, lines_are, verdict.0, middle.0, last.0)) middle last in
        let all = written_then (line_for (verdict_bytes j)) (flat_map window_line shown ++ flat_map flag_line flags) 0 end n old first new same (omega (arith, lines_are, verdict.0, middle.0, last.0)) (verdict.0, verdict.2) rest in
        (omega (arith, all.0, ap length text_is), all.1 ∙ ap (λ text. text ++ drop n old) text_is)
    reported (Err why) mid new next same same' middle last = absurd (omega (arith, lines_are, verdict.0, middle.0, last.0))
