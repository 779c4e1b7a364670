-- The record of one join (document 02, P2): 8 bytes, v and w, then its switches in the order made, unused bytes 255.
-- Assumes nothing.
use Rattle.std.specs.Prelude.{List, [], ◌∷◌, ℕ}
use Rattle.answer.specs.Switches.{first_switch, second_switch}
use Rattle.answer.specs.declared.switches.Switches.{Switches}

abbrev pub join_record_size : ℕ
join_record_size = 8

abbrev pub join_record : ℕ → ℕ → Switches → List ℕ
join_record v w s =
    let x = first_switch s in
    let y = second_switch s in
    v ∷ w ∷ x.a ∷ x.b ∷ x.t ∷ y.a ∷ y.b ∷ y.t ∷ []
