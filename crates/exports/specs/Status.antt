-- How a result is told to a caller in C.
use Rattle.std.specs.Prelude.{◌≡◌, ℕ, Ok, Err, Result}
use Rattle.refusals.specs.declared.Refusal.{Refusal}
use Rattle.refusals.specs.Numbers.{number_of}

-- the status: 0 where nothing is refused, and else the number of the refusal
abbrev pub status_of : Result ℕ Refusal → ℕ
status_of (Ok n) = 0
status_of (Err why) = number_of why

-- the count of bytes written: the new one, or the old one where the call is refused
abbrev pub count_of : Result ℕ Refusal → ℕ → ℕ
count_of (Ok n) old = n
count_of (Err why) old = old

-- a result told by a status and a count, which was another before
abbrev pub Told : Result ℕ Refusal → ℕ → ℕ → ℕ → Type 0
Told r old new status = (status ≡ status_of r) × (new ≡ count_of r old)
