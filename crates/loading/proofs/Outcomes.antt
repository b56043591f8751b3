-- A written frame, taken as a line, is the call that it asks for; and frames whose lines are granted make one table of another.
use Rattle.std.proofs.Common.{◌≡◌, ℕ, ◌+◌, ◌<◌, true, List, [], ◌∷◌, ◌++◌, map, length, get_or, Some, None, Ok, Option, sym, refl, ap, ◌∙◌, arith, Err}
use Rattle.refusals.specs.declared.Refusal.{Refusal}
use Rattle.refusals.specs.declared.Refusal.TheVariants.{Digits}
use Rattle.std.specs.List.{All}
use Rattle.std.proofs.lemmas.List.Elements.{All-head, All-tail}
use Rattle.std.proofs.lemmas.List.{append-nil, append_assoc, length-append, length_push, get_or_at}
use Rattle.std.proofs.lemmas.Bool.{cond-true}
use Rattle.text.specs.Lines.{line_feed, lines_of}
use Rattle.text.specs.Digits.{is_hex, bytes_of, spelled}
use Rattle.frames.specs.Kinds.{widths}
use Rattle.frames.specs.Frames.{Content, Fit, encode, is_whole, frame_of}
use Rattle.frames.proofs.Writing.{read_back}
use Rattle.design.specs.Table.{Table, Lent, is_open}
use Rattle.design.specs.Calls.{Ask}
use Rattle.design.specs.Tests.{refusal}
use Rattle.design.specs.Effects.{given, put, unless, answer_to}
use Rattle.loading.specs.Asking.{asks}
use Rattle.reading.specs.Line.{frame_or_refused, line_frame}
use Rattle.loading.specs.Outcomes.{Outcome, called, framed, line_outcome}
use Rattle.loading.specs.Loading.{unless_refused, load_from}
use Rattle.loading.specs.Writing.{line_of, lines_for}
use Rattle.text.proofs.Spelled.{Bytes, bytes_spelled, hex_spelled, first-spelled}
use Rattle.loading.proofs.Lines.{bytes_encode}

-- a frame that is read back: its numbers fit, it lists as many bytes as it says, and these are bytes
abbrev pub Sound : Content → Type 0
Sound f = Fit (widths f.kind) f.numbers × (is_whole f ≡ true) × Bytes f.listed

-- the line of a frame is taken as what the frame asks
pub frame_outcome : (l : Lent) (t : Table) (f : Content) → Sound f → line_outcome l t (spelled (encode f)) ≡ called l t (asks (is_open t.state) f)
frame_outcome l t f s =
    let line = spelled (encode f) in
    let bytes = bytes_encode f s.2 in
    let digits = cond-true (is_hex line) (frame_or_refused (frame_of (bytes_of line))) (Err Digits) (hex_spelled (encode f) bytes (omega arith)) in
    let back = bytes_spelled (encode f) bytes in
    let read = read_back f s.0 s.1 in
    let frame : line_frame line ≡ Ok f = cc in
    ap (framed l t) frame

-- the lines of a text of frames are those of the frames
pub lines_back : (fs : List Content) → All (λ f. Bytes f.listed) fs → lines_of (lines_for fs) ≡ map (λ f. spelled (encode f)) fs
lines_back [] bytes = refl
lines_back (f ∷ fs) bytes =
    let first = All-head (λ g. Bytes g.listed) f fs bytes in
    let rest = All-tail (λ g. Bytes g.listed) f fs bytes in
    ap lines_of (append_assoc (spelled (encode f)) (line_feed ∷ []) (lines_for fs))
    ∙ (first-spelled (encode f) (lines_for fs) (bytes_encode f first) ∙ ap (λ ls. spelled (encode f) ∷ ls) (lines_back fs rest))

-- frames make one table of another: wherever their lines stand in a text, loading grants them and goes on from that table
pub record Makes (l : Lent) (t : Table) (fs : List Content) (u : Table) : Type 0 where
  pub goes : (n : ℕ) (rest : List ℕ) → load_from l n t (lines_of (lines_for fs ++ rest)) ≡ load_from l (n + length fs) u (lines_of rest)

-- no frames keep the table
pub makes_none : {l : Lent} {t : Table} → Makes l t [] t
makes_none {l} {t} = record { goes = λ n rest. ap (λ m. load_from l m t (lines_of rest)) (omega arith) }

-- the outcome of a call, by what it is refused with
abbrev resulting : Lent → Table → Ask → Option Refusal → Outcome
resulting l t c r = record { answer = answer_to r (given t c); table = unless r (put l t c) t }

-- a frame whose call is granted
pub makes_one : {l : Lent} {t u : Table} {f : Content} (c : Ask) → Sound f → asks (is_open t.state) f ≡ Some c → refusal l t c ≡ None → put l t c ≡ u → Makes l t (f ∷ []) u
makes_one {l} {t} {u} {f} c s asking granted made =
    let line = spelled (encode f) in
    let outcome : line_outcome l t line ≡ record { answer = Ok (given t c); table = put l t c } = frame_outcome l t f s ∙ (ap (called l t) asking ∙ ap (resulting l t c) granted) in
    record {
      goes = λ n rest.
          let text : lines_for (f ∷ []) ++ rest ≡ line ++ line_feed ∷ rest = simp append_assoc in
          ap (load_from l n t) (ap lines_of text ∙ first-spelled (encode f) rest (bytes_encode f s.2))
          ∙ ap (λ o. unless_refused o.answer (n + 1) t (load_from l (n + 1) o.table (lines_of rest))) outcome
          ∙ ap (λ v. load_from l (n + 1) v (lines_of rest)) made;
    }

-- the lines of frames behind frames
lines-append : (fs gs : List Content) → lines_for (fs ++ gs) ≡ lines_for fs ++ lines_for gs
lines-append [] gs = refl
lines-append (f ∷ fs) gs = ap (λ ls. line_of f ++ ls) (lines-append fs gs) ∙ sym (append_assoc (line_of f) (lines_for fs) (lines_for gs))

-- frames behind frames
pub makes_then : {l : Lent} {t u v : Table} {fs gs : List Content} → Makes l t fs u → Makes l u gs v → Makes l t (fs ++ gs) v
makes_then {l} {t} {u} {v} {fs} {gs} first then =
    record {
      goes = λ n rest.
          let text : lines_for (fs ++ gs) ++ rest ≡ lines_for fs ++ (lines_for gs ++ rest) = ap (λ ls. ls ++ rest) (lines-append fs gs) ∙ append_assoc (lines_for fs) (lines_for gs) rest in
          let count : n + length fs + length gs ≡ n + length (fs ++ gs) = omega (arith, length-append fs gs) in
          let a = first.goes n (lines_for gs ++ rest) in
          let b = then.goes (n + length fs) rest in
          cc;
    }

-- The frames of the items of a list, one item after another: the table depends on the items done and on those left. Each item is known by its number.
module _ {X : Type 0} (l : Lent) (at : List X → List X → Table) (first : ℕ → X → List Content) (frames : ℕ → List X → List Content) (d : X) (P : ℕ → X → Type 0) (all : List X) where
  pub makes_each : ((k : ℕ) → frames k [] ≡ []) → ((k : ℕ) (x : X) (xs : List X) → frames k (x ∷ xs) ≡ first k x ++ frames (k + 1) xs)
      → ((k : ℕ) → k < length all → P k (get_or all k d))
      → ((done left : List X) (x : X) → done ++ x ∷ left ≡ all → length done < length all → P (length done) x → Makes l (at done (x ∷ left)) (first (length done) x) (at (done ++ x ∷ []) left))
      → (done left : List X) → done ++ left ≡ all → Makes l (at done left) (frames (length done) left) (at all [])
  makes_each none more each step done [] e =
      let same : done ≡ all = sym (append-nil done) ∙ e in
      rw (none (length done), same) makes_none
  makes_each none more each step done (x ∷ left) e =
      let here : get_or all (length done) d ≡ x = ap (λ ys. get_or ys (length done) d) (sym e) ∙ get_or_at done x left d (length done) refl in
      let below : length done < length all = omega (arith, length-append done (x ∷ left), ap length e) in
      let others = makes_each none more each step (done ++ x ∷ []) left (append_assoc done (x ∷ []) left ∙ e) in
      rw (more (length done) x left) (makes_then (step done left x e below (rw here at (each (length done) below))) (rw length_push at others))
