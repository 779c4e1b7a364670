-- Document 01's number of each cause, and the number and values of each case of each answer.
-- Assumes nothing.
use Rattle.std.specs.Prelude.{Bool, false, ◌||◌, List, [], ◌∷◌, ℕ, eqb}
use Rattle.answer.specs.Switches.{switch_count, first_switch, second_switch}
use Rattle.answer.specs.declared.Cause.{Cause}
use Rattle.answer.specs.declared.Cause.TheVariants.{WrongLength, InvalidState, WrongPhase, BlockLength, BadRecord, BlockNumber, BlockDiffers, JournalFull, OddDiagonal, RowNotDivisible, CellTooLarge, TooManyVertices, NoSuchVertex, SameVertex, EdgePresent, CellNotShort, EdgeAbsent, OutputTooShort, BadEdgeList, DegreeTooHigh, Graph6Text, Graph6Size, SwapNotAllowed, LogFull, LogEmpty}
use Rattle.answer.specs.declared.Refusal.{Refusal}
use Rattle.answer.specs.declared.ClearAnswer.{ClearAnswer}
use Rattle.answer.specs.declared.ClearAnswer.TheVariants as Clear
use Rattle.answer.specs.declared.TakeAnswer.{TakeAnswer}
use Rattle.answer.specs.declared.TakeAnswer.TheVariants as Take
use Rattle.answer.specs.declared.LengthAnswer.{LengthAnswer}
use Rattle.answer.specs.declared.LengthAnswer.TheVariants as Len
use Rattle.answer.specs.declared.LayOutAnswer.{LayOutAnswer}
use Rattle.answer.specs.declared.LayOutAnswer.TheVariants as LayOut
use Rattle.answer.specs.declared.FiguresAnswer.{FiguresAnswer}
use Rattle.answer.specs.declared.FiguresAnswer.TheVariants as Figs
use Rattle.answer.specs.declared.AddAnswer.{AddAnswer}
use Rattle.answer.specs.declared.AddAnswer.TheVariants as Add
use Rattle.answer.specs.declared.RemoveAnswer.{RemoveAnswer}
use Rattle.answer.specs.declared.RemoveAnswer.TheVariants as Remove
use Rattle.answer.specs.declared.SwapAnswer.{SwapAnswer}
use Rattle.answer.specs.declared.SwapAnswer.TheVariants as Swap
use Rattle.answer.specs.declared.UndoAnswer.{UndoAnswer}
use Rattle.answer.specs.declared.UndoAnswer.TheVariants as Undo
use Rattle.answer.specs.declared.CompleteAnswer.{CompleteAnswer}
use Rattle.answer.specs.declared.CompleteAnswer.TheVariants as Complete
use Rattle.answer.specs.declared.ShuffleAnswer.{ShuffleAnswer}
use Rattle.answer.specs.declared.ShuffleAnswer.TheVariants as Shuffle
use Rattle.answer.specs.declared.WrittenAnswer.{WrittenAnswer}
use Rattle.answer.specs.declared.WrittenAnswer.TheVariants as Write
use Rattle.answer.specs.declared.ReadAnswer.{ReadAnswer}
use Rattle.answer.specs.declared.ReadAnswer.TheVariants as Read

-- the numbers of document 01's table, and those that document 02 adds to it
abbrev pub number_of : Cause → ℕ
number_of WrongLength = 1
number_of InvalidState = 2
number_of WrongPhase = 3
number_of BlockLength = 4
number_of BadRecord = 5
number_of BlockNumber = 6
number_of BlockDiffers = 7
number_of JournalFull = 8
number_of OddDiagonal = 9
number_of RowNotDivisible = 10
number_of CellTooLarge = 11
number_of TooManyVertices = 12
number_of NoSuchVertex = 13
number_of SameVertex = 14
number_of EdgePresent = 15
number_of CellNotShort = 16
number_of EdgeAbsent = 17
number_of OutputTooShort = 18
number_of BadEdgeList = 19
number_of DegreeTooHigh = 20
number_of Graph6Text = 21
number_of Graph6Size = 22
number_of SwapNotAllowed = 23
number_of LogFull = 24
number_of LogEmpty = 25

-- n is one of the numbers
abbrev pub one_of : ℕ → List ℕ → Bool
one_of n [] = false
one_of n (m ∷ ms) = eqb n m || one_of n ms

-- An answer in numbers: 0 and its values where the call did its work, else the refusal's number and its two places.
-- What is not named is 0.
pub record Numbers : Type 0 where
  pub number : ℕ
  pub first : ℕ
  pub second : ℕ
  pub third : ℕ
  pub fourth : ℕ
  pub fifth : ℕ

abbrev pub refused : Refusal → Numbers
refused r = record { number = number_of r.cause; first = r.first; second = r.second; third = 0; fourth = 0; fifth = 0 }

abbrev pub done : ℕ → ℕ → Numbers
done a b = record { number = 0; first = a; second = b; third = 0; fourth = 0; fifth = 0 }

abbrev pub clear_numbers : ClearAnswer → Numbers
clear_numbers Clear.Cleared = done 0 0
clear_numbers (Clear.Refused r) = refused r

-- first: 0 taken, 1 held; second: the number of the next block where it was taken
abbrev pub take_numbers : TakeAnswer → Numbers
take_numbers (Take.Taken next) = done 0 next
take_numbers Take.Held = done 1 0
take_numbers (Take.Refused r) = refused r

abbrev pub length_numbers : LengthAnswer → Numbers
length_numbers (Len.Length n) = done n 0
length_numbers (Len.Refused r) = refused r

abbrev pub lay_out_numbers : LayOutAnswer → Numbers
lay_out_numbers (LayOut.LaidOut n) = done n 0
lay_out_numbers (LayOut.Refused r) = refused r

abbrev pub figures_numbers : FiguresAnswer → Numbers
figures_numbers (Figs.Reported f) =
    record { number = 0; first = f.phase; second = f.blocks; third = f.vertices; fourth = f.wanted; fifth = f.laid }
figures_numbers (Figs.Refused r) = refused r

-- An added edge in numbers: 0, the switches, 0, and their vertices in the order made, 255 where a switch was not needed; else the refusal's number,
-- its two places, and 0.
pub record JoinNumbers : Type 0 where
  pub number : ℕ
  pub first : ℕ
  pub second : ℕ
  pub a1 : ℕ
  pub b1 : ℕ
  pub t1 : ℕ
  pub a2 : ℕ
  pub b2 : ℕ
  pub t2 : ℕ

abbrev pub add_numbers : AddAnswer → JoinNumbers
add_numbers (Add.Added s) =
    let x = first_switch s in
    let y = second_switch s in
    record {
      number = 0;
      first = switch_count s;
      second = 0;
      a1 = x.a;
      b1 = x.b;
      t1 = x.t;
      a2 = y.a;
      b2 = y.b;
      t2 = y.t;
    }
add_numbers (Add.Refused r) =
    record { number = number_of r.cause; first = r.first; second = r.second; a1 = 0; b1 = 0; t1 = 0; a2 = 0; b2 = 0; t2 = 0 }

abbrev pub remove_numbers : RemoveAnswer → Numbers
remove_numbers Remove.Removed = done 0 0
remove_numbers (Remove.Refused r) = refused r

abbrev pub swap_numbers : SwapAnswer → Numbers
swap_numbers Swap.Swapped = done 0 0
swap_numbers (Swap.Refused r) = refused r

abbrev pub undo_numbers : UndoAnswer → Numbers
undo_numbers Undo.Undone = done 0 0
undo_numbers (Undo.Refused r) = refused r

-- first: the edges added (document 01: joins); second: the switches; third: the written length
abbrev pub complete_numbers : CompleteAnswer → Numbers
complete_numbers (Complete.Completed joins switches length) =
    record { number = 0; first = joins; second = switches; third = length; fourth = 0; fifth = 0 }
complete_numbers (Complete.Refused r) = refused r

-- the same, and fourth: the last x
abbrev pub shuffle_numbers : ShuffleAnswer → Numbers
shuffle_numbers (Shuffle.Completed joins switches length x) =
    record { number = 0; first = joins; second = switches; third = length; fourth = x; fifth = 0 }
shuffle_numbers (Shuffle.Refused r) = refused r

abbrev pub written_numbers : WrittenAnswer → Numbers
written_numbers (Write.Written n) = done n 0
written_numbers (Write.Refused r) = refused r

-- first: the written length; second: the total of vertices
abbrev pub read_numbers : ReadAnswer → Numbers
read_numbers (Read.Read n total) = done n total
read_numbers (Read.Refused r) = refused r
