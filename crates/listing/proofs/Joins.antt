-- The lines of frames, put one after another: one more, and how long they are.
use Rattle.std.proofs.Common.{◌≡◌, ℕ, suc, ◌+◌, ◌-◌, ◌*◌, ◌^◌, ◌<◌, List, [], ◌∷◌, ◌++◌, length, get_or, take, drop, min, Ok, Err, sym, refl, ap, ◌∙◌, subst, add-zero, arith}
use Rattle.std.specs.List.{flat_map}
use Rattle.std.proofs.lemmas.List.{append_assoc, append-nil, length-append, length-take-le, take_more, take_at, take-append-drop}
use Rattle.std.proofs.lemmas.Grind.{flat_map-append}
use Rattle.std.proofs.lemmas.Slice.{drop-append-drop}
use Rattle.refusals.specs.declared.Refusal.{Refusal}
use Rattle.text.specs.Spelling.{line_for, SpelledAt}
use Rattle.text.proofs.Spelled.{length_line}
use Rattle.frames.specs.Frames.{Content, encode}
use Rattle.design.specs.declared.nodes.Node.{Node}
use Rattle.loading.specs.Writing.{feed_frame, feed_frames, line_of, lines_for}
use Rattle.listing.specs.declared.lines.Listing.{Listing}
use Rattle.listing.specs.Appending.{end_with, Appends}

-- the items of one element more
pub items_more : {X Y : Type 0} (f : X → List Y) (xs : List X) (k : ℕ) (d : X) → k < length xs → flat_map f (take (k + 1) xs) ≡ flat_map f (take k xs) ++ f (get_or xs k d)
items_more f xs k d h =
    let item = get_or xs k d in
    ap (flat_map f) (take_more xs k d h) ∙ (flat_map-append f (take k xs) (item ∷ []) ∙ ap (λ l. flat_map f (take k xs) ++ l) (append-nil (f item)))

-- the feeds of one node more
feeds_push : (j : ℕ) (xs : List Node) (x : Node) → feed_frames j (xs ++ x ∷ []) ≡ feed_frames j xs ++ feed_frame (j + length xs) x
feeds_push j [] x = append-nil (feed_frame j x) ∙ ap (λ n. feed_frame n x) (omega arith)
feeds_push j (y ∷ xs) x =
    ap (λ l. feed_frame j y ++ l) (feeds_push (j + 1) xs x ∙ ap (λ n. feed_frames (j + 1) xs ++ feed_frame n x) (omega arith))
    ∙ sym (append_assoc (feed_frame j y) (feed_frames (j + 1) xs) (feed_frame (j + suc (length xs)) x))

-- the feeds of the first nodes and of the one behind them
pub feeds_more : (xs : List Node) (k : ℕ) (d : Node) → k < length xs → feed_frames 0 (take (k + 1) xs) ≡ feed_frames 0 (take k xs) ++ feed_frame k (get_or xs k d)
feeds_more xs k d h =
    ap (feed_frames 0) (take_more xs k d h)
    ∙ (feeds_push 0 (take k xs) (get_or xs k d) ∙ ap (λ n. feed_frames 0 (take k xs) ++ feed_frame n (get_or xs k d)) (omega (arith, length-take-le k xs (omega arith))))

-- no line leaves a listing as it was
pub appends_none : (s : Listing) → Appends [] s s
appends_none s = record {
  same_buffer = refl;
  same_length = refl;
  counted = omega arith;
  no_further = omega arith;
  written = λ low h. sym (ap (λ n. take s.end s.out.now ++ drop n s.out.now) (add-zero s.end) ∙ take-append-drop s.end s.out.now);
}

-- the lines of some frames, and then of others behind them
pub appends_then : {fs gs : List Content} {s t u : Listing} → Appends fs s t → Appends gs t u → Appends (fs ++ gs) s u
appends_then {fs} {gs} {s} {t} {u} first then =
    let F = lines_for fs in
    let G = lines_for gs in
    let a = s.out.now in
    let both = flat_map-append line_of fs gs in
    let long : length (lines_for (fs ++ gs)) ≡ length F + length G = ap length both ∙ length-append F G in
    let counted = first.counted in
    let more = then.counted in
    let same = first.same_length in
    record {
      same_buffer = then.same_buffer ∙ first.same_buffer;
      same_length = then.same_length ∙ first.same_length;
      counted = omega arith;
      no_further = omega (arith, first.no_further, then.no_further);
      written = λ low h.
          let reach : t.end ≡ s.end + length F = omega arith in
          let end : t.end + length G ≡ end_with (fs ++ gs) s = omega arith in
          let front = take s.end a ++ F in
          let wide : length front ≡ t.end = omega (arith, length-append (take s.end a) F, length-take-le s.end a (omega arith)) in
          let mid : t.out.now ≡ front ++ drop t.end a = first.written (omega arith) (omega arith) ∙ rw (← reach) (simp append_assoc) in
          then.written (omega arith) (omega arith)
          ∙ rw (end, mid, take_at front (drop t.end a) t.end wide, drop-append-drop t.end a front (end_with (fs ++ gs) s) (omega arith) wide, both) (simp append_assoc);
    }

-- one step of a loop over the frames
pub appends_more : {fs gs hs : List Content} {s t u : Listing} → hs ≡ fs ++ gs → Appends fs s t → Appends gs t u → Appends hs s u
appends_more {fs} {gs} {hs} {s} {t} {u} same first then = subst (λ l. Appends l s u) (sym same) (appends_then first then)

-- The line of a frame that stands at the front of a room, put by spelling those first bytes.
module _ (f : Content) (room rest : List ℕ) (count : ℕ) (is : room ≡ encode f ++ rest) (size : count ≡ length (encode f)) (s t : Listing) (name : t.out.ghost_name ≡ s.out.ghost_name) where
  -- the bytes that are spelled
  front_is : take count room ≡ encode f
  front_is = ap (take count) is ∙ take_at (encode f) rest count (sym size)

  -- their line
  line_is : line_for (take count room) ≡ lines_for (f ∷ [])
  line_is = ap line_for front_is ∙ sym (append-nil (line_of f))

  -- written where it ends within the buffer
  pub appends_line : SpelledAt (take count room) s.end s.out.now t.out.now (Ok t.end) → length t.out.now ≡ length s.out.now → Appends (f ∷ []) s t
  appends_line spelled long =
      let end : t.end ≡ end_with (f ∷ []) s = spelled.0 ∙ ap (λ l. s.end + length l) line_is in
      let line = line_is in
      record {
        same_buffer = name;
        same_length = long;
        counted = ap (λ n. min n (2 ^ 64 - 1)) end;
        no_further = omega (arith, end);
        written = λ low h. cc (spelled.2);
      }

  -- and else only counted
  pub appends_past : (why : Refusal) → SpelledAt (take count room) s.end s.out.now t.out.now (Err why) → t.end ≡ min (s.end + (2 * count + 1)) (2 ^ 64 - 1) → Appends (f ∷ []) s t
  appends_past why spelled end =
      let long : length (lines_for (f ∷ [])) ≡ 2 * count + 1 = omega (arith, ap length (append-nil (line_of f)), length_line (encode f)) in
      record {
        same_buffer = name;
        same_length = ap length spelled.2;
        counted = omega arith;
        no_further = omega arith;
        written = λ low h. absurd (omega (arith, spelled.0, ap length line_is));
      }
