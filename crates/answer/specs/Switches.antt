-- The switches of a join (document 02, P2): how many there are, and their two places where each has one.
-- Assumes nothing.
use Rattle.std.specs.Prelude.{ℕ}
use Rattle.answer.specs.declared.switches.Switch.{Switch}
use Rattle.answer.specs.declared.switches.Switches.{Switches}
use Rattle.answer.specs.declared.switches.Switches.TheVariants.{None, One, Two}

-- the switches made, 0 to 2
abbrev pub switch_count : Switches → ℕ
switch_count None = 0
switch_count (One x) = 1
switch_count (Two x y) = 2

-- what stands for a vertex of a switch that was not needed: no vertex has this number
abbrev pub unused : ℕ
unused = 255

abbrev pub no_switches : Switch
no_switches = record { a = unused; b = unused; t = unused }

-- the first and the second, in the order made; one alone is the first, whichever end it was for
abbrev pub first_switch : Switches → Switch
first_switch None = no_switches
first_switch (One x) = x
first_switch (Two x y) = x

abbrev pub second_switch : Switches → Switch
second_switch None = no_switches
second_switch (One x) = no_switches
second_switch (Two x y) = y
