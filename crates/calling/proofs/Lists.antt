-- The law for a list of calls, with one call more at its end.
use Rattle.std.proofs.Common.{◌≡◌, List, [], ◌∷◌, ◌++◌, Result, refl, sym, ap, subst, ◌∙◌}
use Rattle.refusals.specs.declared.Refusal.{Refusal}
use Rattle.design.specs.Table.{Table}
use Rattle.calling.specs.declared.request.Reply.{Reply}
use Rattle.calling.specs.Requests.{Requested, change, verify, LentRows, table_after, so_far}
use Rattle.calling.specs.Applied.{ResultRows}
use Rattle.calling.specs.Law.{CallLaw, ListLaw}

-- the table after a list of calls, of which the first is made first
so_far_cons : (t : Table) (m : LentRows × Requested) (ms : List (LentRows × Requested)) → so_far t (m ∷ ms) ≡ so_far (table_after t m) ms
so_far_cons t (l, change c) ms = refl
so_far_cons t (l, verify sees) ms = refl

-- the table after one call more
pub so_far_push : (t : Table) (ms : List (LentRows × Requested)) (m : LentRows × Requested) → so_far t (ms ++ m ∷ []) ≡ table_after (so_far t ms) m
so_far_push t [] (l, change c) = refl
so_far_push t [] (l, verify sees) = refl
so_far_push t (x ∷ ms) m = so_far_cons t x (ms ++ m ∷ []) ∙ so_far_push (table_after t x) ms m ∙ ap (λ u. table_after u m) (sym (so_far_cons t x ms))

-- A list of calls of which the law holds, and one call more on the table that they leave.
pub law_push : (t : Table) (ms : List (LentRows × Requested)) (rs : List (Result Reply Refusal)) (m : LentRows × Requested) (r : Result Reply Refusal) (old mid new : ResultRows)
    → ListLaw t ms rs old mid → CallLaw (so_far t ms) m mid new r → ListLaw t (ms ++ m ∷ []) (rs ++ r ∷ []) old new
law_push t [] [] m r old mid new first last = (new, subst (λ s. CallLaw t m s new r) first last, refl)
law_push t [] (q ∷ rs) m r old mid new first last = absurd first
law_push t (x ∷ ms) [] m r old mid new first last = absurd first
law_push t (x ∷ ms) (q ∷ rs) m r old mid new first last =
    (first.0, first.1, law_push (table_after t x) ms rs m r first.0 mid new first.2 (subst (λ u. CallLaw u m mid new r) (so_far_cons t x ms) last))
