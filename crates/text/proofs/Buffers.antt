-- A buffer that is written from its first place on.
use Rattle.std.proofs.Common.{◌≡◌, ℕ, ◌+◌, ◌<◌, List, [], ◌∷◌, ◌++◌, length, get_or, drop, set}
use Rattle.std.proofs.lemmas.List.{append_assoc, set_at, drop_more, take_at, drop_at, drop-drop}
use borrow.Rule.Slice.PartMut.{put_mid}

module _ {X : Type 0} where
  -- one more behind those that are written
  pub one_more : (xs old : List X) (n : ℕ) (v : X) → length xs ≡ n → n < length old → set (xs ++ drop n old) n v ≡ (xs ++ v ∷ []) ++ drop (n + 1) old
  one_more xs old n v e h = rw (drop_more old n v h, append_assoc) (set_at xs (get_or old n v) (drop (n + 1) old) v n e)

  -- some more behind those that are written
  pub some_more : (xs ys old now : List X) (n m next : ℕ) → now ≡ xs ++ drop n old → length xs ≡ n → next ≡ n + m → put_mid n m now ys ≡ (xs ++ ys) ++ drop next old
  some_more xs ys old now n m next is e up = rw (is, take_at xs (drop n old) n e, drop_at xs (drop n old) n e, drop-drop m n old, append_assoc, up)
