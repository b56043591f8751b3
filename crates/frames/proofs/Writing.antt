-- What is written as a frame is read as that frame.
use Rattle.std.proofs.Common.{◌≡◌, ℕ, zero, suc, ◌+◌, ◌*◌, ◌/◌, ◌%◌, ◌^◌, ◌<◌, ◌≤◌, true, List, [], ◌∷◌, ◌++◌, length, take, drop, Some, Ok, sym, refl, ap, ◌∙◌, mod-eq_of_lt, arith}
use lib.Arith.{mod-mul}
use borrow.Rule.Slice.PartMut.{put_mid}
use native.Mathlib.Nat.{mod-one, pow-succ'}
use Rattle.std.proofs.lemmas.List.{append_assoc, length-append, length_push, get_or_at, drop_at, take_at, take-append-drop}
use Rattle.std.proofs.lemmas.Slice.{take-put_mid, drop-put_mid, drop-append-drop}
use Rattle.std.proofs.lemmas.Bool.Decides.{nat_tests}
use Rattle.frames.specs.declared.kinds.Kind.{Kind}
use Rattle.frames.specs.declared.Frame.{Frame}
use Rattle.frames.specs.Kinds.{byte_of, kind_of, widths, item_width, fixed_width, total}
use Rattle.frames.specs.Contents.{content_of, count_of, Written}
use Rattle.frames.specs.Frames.{Content, Fit, bytes_in, number_at, join, cut, fields_of, encode, apart, is_whole, frame_of}

power_pos : (w : ℕ) → 0 < 256 ^ w
power_pos zero = omega arith
power_pos (suc w) = simp pow-succ' (omega (arith, power_pos w))

pub bytes_in-length : (w x : ℕ) → length (bytes_in w x) ≡ w
bytes_in-length zero x = refl
bytes_in-length (suc w) x = ap suc (bytes_in-length w x)

-- a number's bytes, wherever they stand, read as the number, if it fits them
pub number_back : (w x : ℕ) (pre post : List ℕ) (place : ℕ) → length pre ≡ place → number_at w place (pre ++ (bytes_in w x ++ post)) ≡ x % 256 ^ w
number_back zero x pre post place at = sym (mod-one x)
number_back (suc w) x pre post place at =
    let digit = x / 256 ^ w % 256 in
    let rest = bytes_in w x ++ post in
    let high = get_or_at pre digit rest 0 place at in
    let moved = append_assoc pre (digit ∷ []) rest in
    let low = number_back w x (pre ++ digit ∷ []) post (place + 1) (length_push pre digit ∙ ap (λ n. n + 1) at) in
    let split : x % (256 * 256 ^ w) ≡ digit * 256 ^ w + x % 256 ^ w = mod-mul x (omega arith) (power_pos w) in
    let power = pow-succ' 256 w in
    cc

join-length : (ws xs : List ℕ) → Fit ws xs → length (join ws xs) ≡ total ws
join-length [] [] fit = refl
join-length [] (x ∷ xs) fit = absurd fit
join-length (w ∷ ws) [] fit = absurd fit
join-length (w ∷ ws) (x ∷ xs) fit =
    omega (arith, length-append (bytes_in w x) (join ws xs), bytes_in-length w x, join-length ws xs fit.1)

cut_back : (ws xs pre post : List ℕ) (place : ℕ) → length pre ≡ place → Fit ws xs → cut ws place (pre ++ (join ws xs ++ post)) ≡ xs
cut_back [] [] pre post place at fit = refl
cut_back [] (x ∷ xs) pre post place at fit = absurd fit
cut_back (w ∷ ws) [] pre post place at fit = absurd fit
cut_back (w ∷ ws) (x ∷ xs) pre post place at fit =
    let near = append_assoc (bytes_in w x) (join ws xs) post in
    let far = append_assoc pre (bytes_in w x) (join ws xs ++ post) in
    let first = number_back w x pre (join ws xs ++ post) place at ∙ mod-eq_of_lt fit.0 in
    let wide : length (pre ++ bytes_in w x) ≡ place + w = omega (arith, length-append pre (bytes_in w x), bytes_in-length w x) in
    let others = cut_back ws xs (pre ++ bytes_in w x) post (place + w) wide fit.1 in
    cc

kind_back : (k : Kind) → kind_of (byte_of k) ≡ Some k
kind_back k = grind arith

pub encode-length : (f : Content) → Fit (widths f.kind) f.numbers → length (encode f) ≡ fixed_width f.kind + length f.listed
encode-length f fit = omega (arith, length-append (join (widths f.kind) f.numbers) f.listed, join-length (widths f.kind) f.numbers fit)

apart_back : (f : Content) → Fit (widths f.kind) f.numbers → apart f.kind (encode f) ≡ f
apart_back f fit =
    let numbers = cut_back (widths f.kind) f.numbers (byte_of f.kind ∷ []) f.listed 1 refl fit in
    let wide = join-length (widths f.kind) f.numbers fit in
    let listed = drop_at (byte_of f.kind ∷ join (widths f.kind) f.numbers) f.listed (fixed_width f.kind) (omega arith) in
    grind arith

-- a whole frame, written and read
pub read_back : (f : Content) → Fit (widths f.kind) f.numbers → is_whole f ≡ true → frame_of (encode f) ≡ Some f
read_back f fit whole =
    let same = apart_back f fit in
    let long = encode-length f fit in
    let kind = kind_back f.kind in
    grind (arith, nat_tests)

-- a frame that lists as many bytes as it says is whole
pub whole_by : (frame : Frame) → length (content_of frame).listed ≡ item_width (content_of frame).kind * count_of frame → is_whole (content_of frame) ≡ true
whole_by frame e = grind (arith, nat_tests)

-- a buffer with the fixed fields at its front and the listed bytes behind them
pub written : (f : Content) (old mid listed : List ℕ) (fixed k : ℕ) → Fit (widths f.kind) f.numbers → is_whole f ≡ true → fixed ≡ fixed_width f.kind → listed ≡ f.listed → k ≡ length listed → fixed + length listed ≤ length old → mid ≡ fields_of f ++ drop (fixed_width f.kind) old → Written f old (put_mid fixed k mid listed) (Ok (fixed + length listed))
written f old mid listed fixed k fit whole wide lists width room put =
    let n = fixed + length listed in
    let front : length (fields_of f) ≡ fixed = omega (arith, join-length (widths f.kind) f.numbers fit) in
    let put' : mid ≡ fields_of f ++ drop fixed old = put ∙ ap (λ w. fields_of f ++ drop w old) (sym wide) in
    let long : fixed ≤ length mid = omega (arith, ap length put' ∙ length-append (fields_of f) (drop fixed old)) in
    let before = take-put_mid fixed k mid listed n refl long in
    let fields = take_at (fields_of f) (drop fixed old) fixed front in
    let taken : take n (put_mid fixed k mid listed) ≡ encode f = cc in
    let after = drop-put_mid fixed k mid listed n (omega arith) long (sym width) in
    let rest = drop-append-drop fixed old (fields_of f) n (omega arith) front in
    let all = take-append-drop n (put_mid fixed k mid listed) in
    let size : n ≡ length (encode f) = omega (arith, encode-length f fit, ap length lists) in
    (grind (arith, nat_tests), size, cc, ap frame_of taken ∙ read_back f fit whole)
