-- What the loops of `clear` keep.
use Rattle.std.proofs.Common.{◌≡◌, ℕ, ◌<◌, false, length, drop}
use Rattle.windows.specs.Effective.{is_flagged}
use Rattle.verifying.proofs.asking.clear.Given as goal

-- the flags before this place are clear
abbrev pub invariant-loop-k : goal.invariant-loop-k
invariant-loop-k l =
    record {
      long : length l.flags ≡ length l.fn.flags;
      beyond : drop l.count l.flags ≡ drop l.count l.fn.flags;
      clear : (c : ℕ) → c < l.k → is_flagged l.flags c ≡ false;
    }
