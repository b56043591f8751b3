-- What is read as a frame is written as the same bytes.
use Rattle.std.proofs.Common.{◌≡◌, ℕ, zero, suc, ◌+◌, ◌*◌, ◌/◌, ◌%◌, ◌^◌, ◌<◌, ◌≤◌, true, List, [], ◌∷◌, length, get_or, take, drop, Some, None, Ok, Err, Option, Result, refl, sym, ap, ◌∙◌, mul_comm, arith, take-add}
use native.Mathlib.Nat.{pow-succ'}
use Rattle.std.specs.Option.{ok_or}
use Rattle.std.proofs.lemmas.Nat.{div-mul-add, mul-add-lt}
use Rattle.std.proofs.lemmas.List.{drop-drop, take-append-drop, drop_more}
use Rattle.std.proofs.lemmas.Bool.Decides.{nat_tests}
use Rattle.frames.specs.declared.kinds.Kind.{Kind}
use Rattle.frames.specs.declared.Frame.{Frame}
use Rattle.frames.specs.declared.NotAFrame.{NotAFrame}
use Rattle.frames.specs.Contents.{content_of, ReadAs, Read}
use Rattle.frames.specs.Kinds.{byte_of, kind_of, kind_read, widths, fixed_width, total}
use Rattle.frames.specs.Frames.{Content, bytes_in, number_at, join, cut, encode, apart, is_frame, frame_as}
use Rattle.frames.proofs.Reading.{long_enough}

number_small : (w place : ℕ) (bs : List ℕ) → ((i : ℕ) → get_or bs i 0 < 256) → number_at w place bs < 256 ^ w
number_small zero place bs small = omega arith
number_small (suc w) place bs small =
    rw pow-succ' (rw (mul_comm 256 (256 ^ w)) (mul-add-lt (get_or bs place 0) (256 ^ w) (number_at w (place + 1) bs) 256 (small place) (number_small w (place + 1) bs small)))

split : (a b p low : ℕ) → a * (256 * p) + (b * p + low) ≡ (a * 256 + b) * p + low
split a b p low = grind arith

-- the bytes of the number in a field are the field's, whatever stands above them
bytes_back : (w place a : ℕ) (bs : List ℕ) → ((i : ℕ) → get_or bs i 0 < 256) → place + w ≤ length bs → bytes_in w (a * 256 ^ w + number_at w place bs) ≡ take w (drop place bs)
bytes_back zero place a bs small long = refl
bytes_back (suc w) place a bs small long =
    let b = get_or bs place 0 in
    let low = number_at w (place + 1) bs in
    let whole : a * 256 ^ suc w + (b * 256 ^ w + low) ≡ (a * 256 + b) * 256 ^ w + low = rw (pow-succ' 256 w) (split a b (256 ^ w) low) in
    let high : ((a * 256 + b) * 256 ^ w + low) / 256 ^ w % 256 ≡ b = omega (arith, div-mul-add (a * 256 + b) (256 ^ w) low (number_small w (place + 1) bs small), small place) in
    rw whole (rw (high, bytes_back w (place + 1) (a * 256 + b) bs small (omega arith)) (ap (take (suc w)) (sym (drop_more bs place 0 (omega arith)))))

join_back : (ws : List ℕ) (place : ℕ) (bs : List ℕ) → ((i : ℕ) → get_or bs i 0 < 256) → place + total ws ≤ length bs → join ws (cut ws place bs) ≡ take (total ws) (drop place bs)
join_back [] place bs small long = refl
join_back (w ∷ ws) place bs small long =
    let nothing : 0 * 256 ^ w + number_at w place bs ≡ number_at w place bs = omega arith in
    let first = ap (bytes_in w) (sym nothing) ∙ bytes_back w place 0 bs small (omega arith) in
    rw (first, join_back ws (place + w) bs small (omega arith), take-add, drop-drop)

kind_byte : (k : Kind) (b : ℕ) → kind_of b ≡ Some k → byte_of k ≡ b
kind_byte k b e = grind (arith, nat_tests)

-- the bytes of a frame are those that its content is written as
written_back : (k : Kind) (bs : List ℕ) → ((i : ℕ) → get_or bs i 0 < 256) → kind_of (get_or bs 0 0) ≡ Some k → is_frame k bs ≡ true → encode (apart k bs) ≡ bs
written_back k bs small is e =
    let long = long_enough k bs e in
    let whole : bs ≡ get_or bs 0 0 ∷ drop 1 bs = drop_more bs 0 0 (omega arith) in
    let fields = join_back (widths k) 1 bs small long in
    let rest : drop (total (widths k)) (drop 1 bs) ≡ drop (fixed_width k) bs = drop-drop (total (widths k)) 1 bs in
    let all = take-append-drop (total (widths k)) (drop 1 bs) in
    let byte = kind_byte k (get_or bs 0 0) is in
    cc

kind_is : (o : Option Kind) (k : Kind) → ok_or {E = NotAFrame} o (record {}) ≡ Ok k → o ≡ Some k
kind_is None k e = cc
kind_is (Some x) k e = cc

frame_is : (k : Kind) (bs : List ℕ) (f : Content) → frame_as (Some k) bs ≡ Some f → (is_frame k bs ≡ true) × (apart k bs ≡ f)
frame_is k bs f e = grind arith

-- what is read as the kind that its first byte stands for
pub read_and_written : (k : Kind) (bs : List ℕ) (r : Result Frame NotAFrame) → ((i : ℕ) → get_or bs i 0 < 256) → kind_read (get_or bs 0 0) ≡ Ok k → ReadAs (Some k) bs r → Read bs r
read_and_written k bs (Ok f) small is e =
    let kind = kind_is (kind_of (get_or bs 0 0)) k is in
    let frame = frame_is k bs (content_of f) e in
    (ap (λ o. frame_as o bs) kind ∙ e, ap encode (sym frame.1) ∙ written_back k bs small kind frame.0)
read_and_written k bs (Err x) small is e = ap (λ o. frame_as o bs) (kind_is (kind_of (get_or bs 0 0)) k is) ∙ e

-- the same, whatever kind the first byte stands for, or where it stands for none
pub read_any_and_written : (o : Option Kind) (bs : List ℕ) (r : Result Frame NotAFrame) → ((i : ℕ) → get_or bs i 0 < 256) → kind_of (get_or bs 0 0) ≡ o → ReadAs o bs r → Read bs r
read_any_and_written None bs (Ok f) small is e = cc
read_any_and_written None bs (Err x) small is e = ap (λ o. frame_as o bs) is
read_any_and_written (Some k) bs r small is e = read_and_written k bs r small (ap (λ o. ok_or o (record {})) is) e
