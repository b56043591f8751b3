-- The answers to what the check asks of `spell_line`.
use Rattle.std.proofs.Common.{◌≡◌, ◌+◌, ◌-◌, ◌*◌, ◌++◌, [], ◌∷◌, length, take, drop, sym, refl, arith}
use Rattle.std.proofs.lemmas.List.{length-append, length-take-le, append_assoc, take-append-drop}
use Rattle.text.specs.Lines.{line_feed}
use Rattle.text.specs.Digits.{spelled}
use Rattle.text.specs.Spelling.{line_for}
use Rattle.text.proofs.Buffers.{one_more, some_more}
use Rattle.text.proofs.Spelled.{length-spelled, length_line, bytes_spelled, bytes_from}
use Rattle.text.proofs.spelling.spell_line.Goals as goal

pub returns-then-saturating_sub-width : goal.returns-then-saturating_sub-width
returns-then-saturating_sub-width c =
    let bs = c.args.bytes.now in
    record {
      line = (omega (arith, length_line bs), refl, refl);
      back = bytes_spelled bs (bytes_from bs (λ i. omega (arith, c.type_inv.bytes i)));
    }

pub returns : goal.returns
returns c =
    let bs = c.args.bytes.now in
    let old = c.args.out.now in
    let place = c.args.place in
    let end = place + 2 * length bs in
    let front : length (take place old) ≡ place = length-take-le place old (omega arith) in
    let wide : length (take place old ++ spelled bs) ≡ end = omega (arith, length-append (take place old) (spelled bs), length-spelled bs) in
    let digits = some_more (take place old) (spelled bs) old old place (end - place) end (sym (take-append-drop place old)) front (omega arith) in
    let line = one_more (take place old ++ spelled bs) old end line_feed wide (omega arith) in
    let joined : ((take place old ++ spelled bs) ++ line_feed ∷ []) ++ drop (end + 1) old ≡ take place old ++ (line_for bs ++ drop (end + 1) old) = simp append_assoc in
    record {
      line = (omega (arith, length_line bs), omega arith, cc);
      back = bytes_spelled bs (bytes_from bs (λ i. omega (arith, c.type_inv.bytes i)));
    }
