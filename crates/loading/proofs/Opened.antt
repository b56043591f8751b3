-- The schedule frame of a clock asks for that clock, and opens a book under it.
use Rattle.std.proofs.Common.{◌≡◌, ℕ, ◌+◌, ◌*◌, ◌^◌, ◌<◌, ◌≤◌, Bool, true, List, [], ◌∷◌, ◌++◌, map, length, get_or, take, Some, sym, refl, ap, ◌∙◌, ⊎_elim, arith}
use Rattle.std.specs.List.{flat_map, range_with_len, list_all}
use Rattle.std.proofs.lemmas.List.{places, length-take-le, get_or-take}
use Rattle.std.proofs.lemmas.List.FromFn.{length-range_with_len, get_or-range_with_len, fill_by_all}
use Rattle.std.proofs.lemmas.List.Sums.{AllPass-from_list_all}
use Rattle.std.proofs.lemmas.Bool.{cases_lt}
use Rattle.std.proofs.lemmas.Bool.Decides.{nat_tests}
use Rattle.schedule.specs.Clock.{Clock, in_use, start_fits, width_fits, lawful, cleared_places, cleared}
use Rattle.schedule.proofs.Lawful.{phases_bounds, places_bounds}
use Rattle.schedule.proofs.Cleared.{length-cleared}
use Rattle.frames.specs.Frames.{bytes_in, number_at}
use Rattle.design.specs.Table.{Lent, unopened_table, opening}
use Rattle.design.specs.Calls.{open_with}
use Rattle.reading.specs.Clocks.{starts_in, widths_in, clock_in}
use Rattle.loading.specs.Writing.{phase_bytes, schedule_frame}
use Rattle.loading.proofs.Items.{number_past, bytes_items, length_items, number_among}
use Rattle.loading.proofs.Outcomes.{Sound, Makes, makes_one}

-- a test that the entries in use meet holds at each of their places
used_at : (p : ℕ → Bool) (n : ℕ) (xs : List ℕ) (k : ℕ) → n ≤ length xs → k < n → list_all p (take n xs) ≡ true → p (get_or xs k 0) ≡ true
used_at p n xs k long h e = rw (get_or-take n xs k 0 h) at (AllPass-from_list_all p (take n xs) e k 0 (omega (arith, length-take-le n xs long)))

-- a period, a start or a width fits four bytes
figures_small : (c : Clock) → lawful c ≡ true → (c.period < 256 ^ 4) × (c.proximity < c.period) × ((k : ℕ) → k < c.phases → (get_or c.starts k 0 < 256 ^ 4) × (get_or c.widths k 0 < 256 ^ 4))
figures_small c law =
    let long = places_bounds c law in
    let starts : list_all (start_fits c) (in_use c c.starts) ≡ true = grind (arith, nat_tests) in
    let widths : list_all (width_fits c) (in_use c c.widths) ≡ true = grind (arith, nat_tests) in (
      grind (arith, nat_tests),
      grind (arith, nat_tests),
      λ k h.
          let start = used_at (start_fits c) c.phases c.starts k long.0 h starts in
          let width = used_at (width_fits c) c.phases c.widths k long.1 h widths in
          (grind (arith, nat_tests), grind (arith, nat_tests)),
    )

-- a phase takes eight bytes
phase_length : (c : Clock) (k : ℕ) → length (phase_bytes c k) ≡ 8
phase_length c k = omega arith

-- the bytes of a clock's phases
abbrev phases_of : Clock → List ℕ
phases_of c = flat_map (phase_bytes c) (range_with_len 0 c.phases)

-- how many they are
phases_length : (c : Clock) → length (phases_of c) ≡ 8 * c.phases
phases_length c = omega (arith, length_items (phase_bytes c) 8 (range_with_len 0 c.phases) (phase_length c), length-range_with_len 0 c.phases)

-- Sixteen figures, with zeros past the last phase, are read from the bytes of the phases: each where it stands in those of its phase, and the zeros past the end.
places_back : (c : Clock) → lawful c ≡ true → (xs : List ℕ) (place : ℕ → ℕ) (off : ℕ) (pre post : ℕ → List ℕ)
    → ((k : ℕ) → phase_bytes c k ≡ pre k ++ (bytes_in 4 (get_or xs k 0) ++ post k)) → ((k : ℕ) → length (pre k) ≡ off) → ((k : ℕ) → place k ≡ 8 * k + off)
    → c.phases ≤ length xs → cleared_places c.phases xs ≡ xs → ((k : ℕ) → k < c.phases → get_or xs k 0 < 256 ^ 4) → map (λ k. number_at 4 (place k) (phases_of c)) (range_with_len 0 16) ≡ xs
places_back c law xs place off pre post split before at long clear small =
    let n = c.phases in
    let range = length-range_with_len 0 n in
    sym
    (fill_by_all (λ k. number_at 4 (place k) (phases_of c)) xs 16 0 (ap length (sym clear) ∙ length-cleared n xs long (phases_bounds c law).1)
    (λ k h.
    ⊎_elim
    (λ lt.
    let same : get_or (range_with_len 0 n) k 0 ≡ k = get_or-range_with_len 0 n k 0 lt ∙ omega arith in
    ap (λ j. get_or xs j 0) (sym same)
    ∙ sym (number_among (phase_bytes c) 4 8 off (λ j. get_or xs j 0) pre post split (phase_length c) before [] (range_with_len 0 n) k 0 (place k) (omega arith) (rw same (small k lt)) (omega (arith, at k))))
    (λ le.
    let wide = length-take-le n xs long in
    let zero : get_or (cleared_places n xs) k 0 ≡ 0 = grind (arith, places) in
    ap (λ ys. get_or ys k 0) (sym clear) ∙ zero ∙ sym (number_past 4 (place k) (phases_of c) (omega (arith, phases_length c, at k))))
    (cases_lt k n)))

-- the clock that a schedule frame asks for is the one that it was written for
clock_back : (c : Clock) → lawful c ≡ true → cleared c ≡ c → clock_in c.period c.proximity c.phases (phases_of c) ≡ c
clock_back c law clear =
    let long = places_bounds c law in
    let small = (figures_small c law).2 in
    let starts : starts_in (phases_of c) ≡ c.starts = places_back c law c.starts (λ k. 8 * k) 0 (λ k. []) (λ k. bytes_in 4 (get_or c.widths k 0)) (λ k. refl) (λ k. refl) (λ k. omega arith) long.0 (ap (λ k. k.starts) clear) (λ k h. (small k h).0) in
    let widths : widths_in (phases_of c) ≡ c.widths = places_back c law c.widths (λ k. 8 * k + 4) 4 (λ k. bytes_in 4 (get_or c.starts k 0)) (λ k. []) (λ k. refl) (λ k. refl) (λ k. refl) long.1 (ap (λ k. k.widths) clear) (λ k h. (small k h).1) in
    λ i. record { period = c.period; proximity = c.proximity; phases = c.phases; starts = starts i; widths = widths i }

-- a schedule frame is read back
schedule_sound : (c : Clock) → lawful c ≡ true → Sound (schedule_frame c)
schedule_sound c law =
    let len = phases_length c in
    (omega (arith, figures_small c law, phases_bounds c law), grind (arith, nat_tests), bytes_items (phase_bytes c) (range_with_len 0 c.phases) (λ k. omega arith))

-- the schedule frame opens the book
pub load_schedule : (l : Lent) (old c : Clock) → lawful c ≡ true → cleared c ≡ c → Makes l (unopened_table old) (schedule_frame c ∷ []) (opening c l)
load_schedule l old c law clear = makes_one (open_with c) (schedule_sound c law) (ap (λ k. Some (open_with k)) (clock_back c law clear)) (grind (arith, nat_tests)) (ap (λ k. opening k l) clear)
