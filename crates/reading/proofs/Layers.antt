-- A line through digits and frame: what each layer refuses is what the line has no frame for.
use Rattle.std.proofs.Common.{◌≡◌, ℕ, ◌*◌, ◌%◌, ◌<◌, ◌≤◌, true, not, ◌&&◌, eqb, List, length, get_or, take, drop, Some, None, Ok, Err, Option, refl, ap, ◌∙◌, ⊎_elim, sym, arith}
use Rattle.std.proofs.lemmas.List.{length-drop, take_at}
use Rattle.std.proofs.lemmas.Bool.{cond-true, cond-false, cases_Bool, and_parts}
use Rattle.refusals.specs.declared.Refusal.{Refusal}
use Rattle.refusals.specs.declared.Refusal.TheVariants.{Digits, Frame as FrameRefusal}
use Rattle.text.specs.declared.digits.Undecoded.{Undecoded}
use Rattle.text.specs.declared.digits.Undecoded.TheVariants.{NotDigits, TooLong}
use Rattle.text.specs.Digits.{is_hex, every_digit, bytes_of, longest, Decoded, undecoded_refusal}
use Rattle.text.proofs.Hex.{byte_small}
use Rattle.frames.specs.declared.kinds.Kind.{Kind}
use Rattle.frames.specs.declared.kinds.Kind.TheVariants.{Schedule, Input, Gate, Latch, Feed, Couple, Verify, Seal, Reopen}
use Rattle.frames.specs.Kinds.{kind_of, item_width, fixed_width}
use Rattle.frames.specs.Frames.{apart, last_field, is_frame, frame_as, frame_of}
use Rattle.frames.proofs.Reading.{long_enough, listed_length}
use Rattle.reading.specs.Line.{frame_or_refused, line_frame}

digits_alone : (line : List ℕ) → is_hex line ≡ true → every_digit line ≡ true
digits_alone line e =
    (and_parts (eqb (length line % 2) 0) (every_digit line) (and_parts (not (eqb (length line) 0)) (eqb (length line % 2) 0 && every_digit line) e).1).1

-- what a frame lists, as its last fixed field is a byte, makes it no longer than the longest one
bounded : (k : Kind) (bs : List ℕ) → ((i : ℕ) → get_or bs i 0 < 256) → fixed_width k ≤ length bs → length (drop (fixed_width k) bs) ≡ item_width k * last_field (apart k bs) → length bs ≤ longest
bounded Schedule bs small wide e = omega (arith, small 9, length-drop 10 bs)
bounded Input bs small wide e = omega (arith, length-drop 10 bs)
bounded Gate bs small wide e = omega (arith, small 10, length-drop 11 bs)
bounded Latch bs small wide e = omega (arith, length-drop 18 bs)
bounded Feed bs small wide e = omega (arith, length-drop 5 bs)
bounded Couple bs small wide e = omega (arith, length-drop 13 bs)
bounded Verify bs small wide e = omega (arith, length-drop 2 bs)
bounded Seal bs small wide e = omega (arith, length-drop 1 bs)
bounded Reopen bs small wide e = omega (arith, length-drop 1 bs)

too_long : (o : Option Kind) (bs : List ℕ) → ((i : ℕ) → get_or bs i 0 < 256) → longest < length bs → frame_as o bs ≡ None
too_long None bs small long = refl
too_long (Some k) bs small long =
    ⊎_elim
    (λ e. absurd (omega (arith, bounded k bs small (long_enough k bs e) (listed_length k bs e))))
    (λ e. cond-false (is_frame k bs) (Some (apart k bs)) None e)
    (cases_Bool (is_frame k bs))

-- a line that is not read into the room of a frame
pub undecoded : (line old new : List ℕ) (e : Undecoded) (x : Refusal) → Decoded line old new (Err e) → x ≡ undecoded_refusal e → line_frame line ≡ Err x
undecoded line old new NotDigits x d ex = cond-false (is_hex line) (frame_or_refused (frame_of (bytes_of line))) (Err Digits) d.0 ∙ ap Err (sym ex)
undecoded line old new TooLong x d ex =
    let none : frame_of (bytes_of line) ≡ None = too_long (kind_of (get_or (bytes_of line) 0 0)) (bytes_of line) (λ i. byte_small line i (digits_alone line d.0)) d.1 in
    cond-true (is_hex line) (frame_or_refused (frame_of (bytes_of line))) (Err Digits) d.0 ∙ (ap frame_or_refused none ∙ ap Err (sym ex))

-- a line whose bytes are no frame
pub unframed : (line old room : List ℕ) (n : ℕ) (x : Refusal) → Decoded line old room (Ok n) → frame_of (take n room) ≡ None → x ≡ FrameRefusal → line_frame line ≡ Err x
unframed line old room n x d none ex =
    let part : take n room ≡ bytes_of line = ap (take n) d.2 ∙ take_at (bytes_of line) (drop n old) n (sym d.1) in
    cond-true (is_hex line) (frame_or_refused (frame_of (bytes_of line))) (Err Digits) d.0 ∙ (ap frame_or_refused (ap frame_of (sym part) ∙ none) ∙ ap Err (sym ex))
