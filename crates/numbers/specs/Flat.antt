-- Answers as the C interface hands them back: document 01's numbers in a struct of six, of an added edge in one of nine.
-- Assumes nothing.
use Rattle.std.specs.Prelude.{ℕ}
use Rattle.answer.specs.Numbers.{Numbers, JoinNumbers, done, refused}
use Rattle.answer.specs.declared.LengthAnswer.{LengthAnswer}
use Rattle.answer.specs.declared.LengthAnswer.TheVariants.{Length, Refused}
use Rattle.journal.specs.Journal.{block_from}
use Rattle.numbers.specs.declared.ReplicaAnswer.{ReplicaAnswer}
use Rattle.numbers.specs.declared.ReplicaJoin.{ReplicaJoin}

abbrev pub flat : Numbers → ReplicaAnswer
flat n =
    record {
      number = n.number;
      first = n.first;
      second = n.second;
      third = n.third;
      fourth = n.fourth;
      fifth = n.fifth;
    }

abbrev pub flat_join : JoinNumbers → ReplicaJoin
flat_join n =
    record {
      number = n.number;
      first = n.first;
      second = n.second;
      a1 = n.a1;
      b1 = n.b1;
      t1 = n.t1;
      a2 = n.a2;
      b2 = n.b2;
      t2 = n.t2;
    }

-- a held block: its offset in the journal and its length
abbrev pub held_numbers : ℕ → LengthAnswer → Numbers
held_numbers number (Length n) = done (block_from number) n
held_numbers number (Refused r) = refused r
