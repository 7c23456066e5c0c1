-- The number by which a fault of reading is known outside.
use Rattle.std.specs.Prelude.{ℕ}
use Rattle.wire.specs.declared.reading.Fault.{Fault}
use Rattle.wire.specs.declared.reading.Fault.TheVariants.{Ends, Misspelt}

abbrev pub fault_number : Fault → ℕ
fault_number Ends = 5
fault_number Misspelt = 6
