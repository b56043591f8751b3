-- What couplings do to the delays that are kept for each node, and which couplings a flag table sets.
use Rattle.std.specs.Prelude.{ℕ, ◌≤◌, Bool, true, false, cond, List, pos, ◌+ℤ◌, ◌-ℤ◌, ◌≤ℤ◌, slice_index_or, replicate, ◌==◌}
use Rattle.std.specs.Int.{saturate_signed, w64}
use Rattle.design.specs.declared.nodes.Node.{Node}
use Rattle.design.specs.declared.nodes.Node.TheVariants.{Free}
use Rattle.design.specs.declared.couplings.Coupling.{Coupling}
use Rattle.design.specs.Rows.{least_delay}
use Rattle.kinds.specs.declared.timings.Delays.{Delays}
use Rattle.timing.specs.Delays.{own_greatest}
use Rattle.windows.specs.declared.flags.Flag.{Flag}
use Rattle.windows.specs.declared.flags.Flag.TheVariants.{Clear, Set}

-- a flag that is set
abbrev pub is_set : Flag → Bool
is_set Clear = false
is_set Set = true

-- the flag at a place is set; a place that is not there is clear
abbrev pub is_flagged : List Flag → ℕ → Bool
is_flagged flags k = is_set (slice_index_or flags k Clear)

-- the delays of a row by itself
abbrev pub own_delays : Node → Delays
own_delays node = record { least = pos (least_delay node); greatest = pos (own_greatest node) }

-- so many places without delays, which are those of a free row
abbrev pub no_delays : ℕ → List Delays
no_delays room = replicate room (own_delays Free)

-- delays no greater than 32 bits hold, as those of a row are
abbrev pub IsSmall : Delays → Type 0
IsSmall d = (d.least ≤ℤ pos 4294967295) × (d.greatest ≤ℤ pos 4294967295)

-- amounts that 32 bits hold, as those of a coupling are
abbrev pub AmountsSmall : Coupling → Type 0
AmountsSmall k = (k.assisting ≤ 4294967295) × (k.opposing ≤ 4294967295)

-- The delays of its victim with a coupling: the least less the assisting amount, and the greatest with the opposing amount. Where one would leave 64 bits it stays at their end.
abbrev pub disturbed : Coupling → Delays → Delays
disturbed k d =
    record {
      least = saturate_signed w64 (d.least -ℤ pos k.assisting);
      greatest = saturate_signed w64 (d.greatest +ℤ pos k.opposing);
    }

-- the delays of a node with a coupling, which leaves all nodes but its victim as they are
abbrev pub disturbed_at : Coupling → ℕ → Delays → Delays
disturbed_at k v d = cond (k.victim == v) (disturbed k d) d
