-- Rows of lent tables overwritten as records of 22 bytes say it; the numbers in a record have their highest byte first.
use Rattle.std.specs.Prelude.{ℕ, ◌/◌, cond, List, [], ◌∷◌, length, fold, Some, None, Option, ◌==◌, slice_index, slice_set}
use Rattle.std.specs.Simd.{first_chunks}
use Rattle.frames.specs.Frames.{number_at}
use Rattle.design.specs.declared.nodes.Sources.{Sources}
use Rattle.design.specs.declared.nodes.Node.{Node}
use Rattle.design.specs.declared.nodes.Node.TheVariants.{Free, Input, Gate, Latch}
use Rattle.design.specs.declared.couplings.Coupling.{Coupling}
use Rattle.design.specs.Table.{Loan}
use Rattle.states.specs.Views.{loan_of}

-- how many bytes a record has
abbrev pub record_length : ℕ
record_length = 22

-- the records in bytes; bytes left over after the last whole one are left out
abbrev pub records_in : List ℕ → List (List ℕ)
records_in bytes = first_chunks record_length (length bytes / record_length) bytes

-- what a record writes, in byte 0: 0 a free row, 1 an input, 2 a gate, 3 a latch without a source, 4 a latch with one, 5 a coupling, and any other number nothing
abbrev pub written : List ℕ → ℕ
written r = slice_index r 0

-- the number of the row, in bytes 1 and 2
abbrev pub row_number : List ℕ → ℕ
row_number r = number_at 2 1 r

-- the phase of a node, in byte 3
abbrev pub phase_in : List ℕ → ℕ
phase_in r = slice_index r 3

-- the four figures, in bytes 4 to 19
abbrev pub figure_1 : List ℕ → ℕ
figure_1 r = number_at 4 4 r

abbrev pub figure_2 : List ℕ → ℕ
figure_2 r = number_at 4 8 r

abbrev pub figure_3 : List ℕ → ℕ
figure_3 r = number_at 4 12 r

abbrev pub figure_4 : List ℕ → ℕ
figure_4 r = number_at 4 16 r

-- the sources of a gate: four in bytes 12 to 19, and in byte 21 their count, whatever it is
abbrev pub sources_in_record : List ℕ → Sources
sources_in_record r = record { count = slice_index r 21; nodes = number_at 2 12 r ∷ number_at 2 14 r ∷ number_at 2 16 r ∷ number_at 2 18 r ∷ [] }

-- a latch with a source or without one
abbrev pub latch_in : List ℕ → Option ℕ → Node
latch_in r source = Latch (phase_in r) (figure_1 r) (figure_2 r) (figure_3 r) (figure_4 r) source

-- the row that a record writes into the node table; the source of a latch is in bytes 20 and 21
abbrev pub node_in : List ℕ → Option Node
node_in r =
    cond (written r == 0) (Some Free)
    (cond (written r == 1) (Some (Input (phase_in r) (figure_1 r) (figure_2 r)))
    (cond (written r == 2) (Some (Gate (phase_in r) (figure_1 r) (figure_2 r) (sources_in_record r)))
    (cond (written r == 3) (Some (latch_in r None))
    (cond (written r == 4) (Some (latch_in r (Some (number_at 2 20 r)))) None))))

-- the row that a record writes into the coupling table: the victim in bytes 4 and 5, the aggressor in 6 and 7, and then two figures
abbrev pub coupling_in : List ℕ → Option Coupling
coupling_in r = cond (written r == 5) (Some (record { victim = number_at 2 4 r; aggressor = number_at 2 6 r; assisting = figure_2 r; opposing = figure_3 r })) None

-- a table with a row written, if there is one to write; past the end of the table nothing is
abbrev pub with_row : {X : Type 0} → ℕ → Option X → List X → List X
with_row k None xs = xs
with_row k (Some x) xs = slice_set xs k x

-- the node table after a record
abbrev pub nodes_with : List ℕ → List Node → List Node
nodes_with r xs = with_row (row_number r) (node_in r) xs

-- the coupling table after a record
abbrev pub couplings_with : List ℕ → List Coupling → List Coupling
couplings_with r xs = with_row (row_number r) (coupling_in r) xs

-- the node table after all records
abbrev pub nodes_over : List ℕ → List Node → List Node
nodes_over bytes xs = fold (λ ys r. nodes_with r ys) xs (records_in bytes)

-- the coupling table after all records
abbrev pub couplings_over : List ℕ → List Coupling → List Coupling
couplings_over bytes xs = fold (λ ys r. couplings_with r ys) xs (records_in bytes)

-- a loan with its rows overwritten
abbrev pub overwritten : Loan → List ℕ → Loan
overwritten loan bytes = loan_of loan.schedule (nodes_over bytes loan.nodes) (couplings_over bytes loan.couplings)
