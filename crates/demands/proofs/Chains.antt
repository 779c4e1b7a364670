-- Which numbers each entry's checks can give, test by test: what demand 1 says of refusals.
-- Assumes nothing.
use mathlib.Core.Path.{◌≡◌, refl}
use mathlib.Core.Bool.{Bool, true, false, not, cond, or-true}
use mathlib.Core.List.{List, [], ◌∷◌}
use Prim.Native.Nat.{ℕ, ◌+◌, ◌%◌, ◌≤◌}
use lib.Dec.{leb, ltb, eqb}
use lib.ListN.{length}
use Rattle.std.specs.Prelude.{Ok, Err}
use Rattle.answer.specs.Refusals.{Verdict, Go, Stop, refuse, stopped, unless, unless_stopped}
use Rattle.answer.specs.Numbers.{number_of, one_of}
use Rattle.answer.specs.declared.Cause.TheVariants.{WrongLength, InvalidState, WrongPhase, BlockLength, BadRecord, BlockNumber, BlockDiffers, JournalFull, OddDiagonal, RowNotDivisible, CellTooLarge, TooManyVertices, NoSuchVertex, SameVertex, EdgePresent, CellNotShort, EdgeAbsent, OutputTooShort, BadEdgeList, DegreeTooHigh, Graph6Text, Graph6Size, SwapNotAllowed, LogFull, LogEmpty}
use Rattle.answer.specs.declared.Refusal.{Refusal}
use Rattle.answer.specs.declared.switches.Switches.{Switches}
use Rattle.answer.specs.declared.ClearAnswer.{ClearAnswer}
use Rattle.answer.specs.declared.ClearAnswer.TheVariants as Clear
use Rattle.answer.specs.declared.TakeAnswer.{TakeAnswer}
use Rattle.answer.specs.declared.TakeAnswer.TheVariants as Take
use Rattle.answer.specs.declared.LengthAnswer.{LengthAnswer}
use Rattle.answer.specs.declared.LengthAnswer.TheVariants as Len
use Rattle.answer.specs.declared.LayOutAnswer.{LayOutAnswer}
use Rattle.answer.specs.declared.LayOutAnswer.TheVariants as LayOut
use Rattle.answer.specs.declared.FiguresAnswer.{FiguresAnswer}
use Rattle.answer.specs.declared.FiguresAnswer.TheVariants as Figs
use Rattle.answer.specs.declared.AddAnswer.{AddAnswer}
use Rattle.answer.specs.declared.AddAnswer.TheVariants as Add
use Rattle.answer.specs.declared.RemoveAnswer.{RemoveAnswer}
use Rattle.answer.specs.declared.RemoveAnswer.TheVariants as Remove
use Rattle.answer.specs.declared.SwapAnswer.{SwapAnswer}
use Rattle.answer.specs.declared.SwapAnswer.TheVariants as Swap
use Rattle.answer.specs.declared.UndoAnswer.{UndoAnswer}
use Rattle.answer.specs.declared.UndoAnswer.TheVariants as Undo
use Rattle.answer.specs.declared.CompleteAnswer.{CompleteAnswer}
use Rattle.answer.specs.declared.CompleteAnswer.TheVariants as Complete
use Rattle.answer.specs.declared.WrittenAnswer.{WrittenAnswer}
use Rattle.answer.specs.declared.WrittenAnswer.TheVariants as Write
use Rattle.answer.specs.declared.ReadAnswer.{ReadAnswer}
use Rattle.answer.specs.declared.ReadAnswer.TheVariants as Read
use Rattle.graph.specs.Graph.{DegreeTable}
use Rattle.graph.specs.Tests.{most_classes, first_odd, first_uneven, first_overfull, first_overfull_in, vertices}
use Rattle.layout.specs.Layout.{most_vertices, layout_verdict}
use Rattle.table.specs.Block.{most_blocks, records, first_bad}
use Rattle.journal.specs.Journal.{phase_taking, phase_laid, phase, blocks, same_block}
use Rattle.state.specs.State.{State}
use Rattle.state.specs.Checks.{state_verdict, phase_verdict, pair_verdict}
use Rattle.state.specs.Valid.{lengths_ok, valid}
use Rattle.loan.specs.Loan.{Loan}
use Rattle.loan.specs.Valid.{loan_lengths_ok, loan_valid}
use Rattle.loan.specs.Checks.{loan_verdict, laid_verdict}
use Rattle.edge_lists.specs.EdgeList.{listed, first_bad_edge, list_verdict}
use Rattle.take_block.specs.Take.{take_numbered}
use Rattle.demands.specs.Demand1.{CarriesOneOf}

-- What is claimed of an answer: a refusal's number is one of these; of a written length, that it is n and fits m bytes.
abbrev pub OfVerdict : List ℕ → Verdict → Type 0
OfVerdict ns (Ok _) = Unit {0}
OfVerdict ns (Err r) = CarriesOneOf r ns

abbrev pub OfClear : List ℕ → ClearAnswer → Type 0
OfClear ns Clear.Cleared = Unit {0}
OfClear ns (Clear.Refused r) = CarriesOneOf r ns

abbrev pub OfTake : List ℕ → TakeAnswer → Type 0
OfTake ns (Take.Taken next) = Unit {0}
OfTake ns Take.Held = Unit {0}
OfTake ns (Take.Refused r) = CarriesOneOf r ns

abbrev pub OfLength : List ℕ → LengthAnswer → Type 0
OfLength ns (Len.Length n) = Unit {0}
OfLength ns (Len.Refused r) = CarriesOneOf r ns

abbrev pub OfLayOut : List ℕ → LayOutAnswer → Type 0
OfLayOut ns (LayOut.LaidOut n) = Unit {0}
OfLayOut ns (LayOut.Refused r) = CarriesOneOf r ns

abbrev pub OfFigures : List ℕ → FiguresAnswer → Type 0
OfFigures ns (Figs.Reported f) = Unit {0}
OfFigures ns (Figs.Refused r) = CarriesOneOf r ns

abbrev pub OfAdd : List ℕ → AddAnswer → Type 0
OfAdd ns (Add.Added s) = Unit {0}
OfAdd ns (Add.Refused r) = CarriesOneOf r ns

abbrev pub OfRemove : List ℕ → RemoveAnswer → Type 0
OfRemove ns Remove.Removed = Unit {0}
OfRemove ns (Remove.Refused r) = CarriesOneOf r ns

abbrev pub OfSwap : List ℕ → SwapAnswer → Type 0
OfSwap ns Swap.Swapped = Unit {0}
OfSwap ns (Swap.Refused r) = CarriesOneOf r ns

abbrev pub OfUndo : List ℕ → UndoAnswer → Type 0
OfUndo ns Undo.Undone = Unit {0}
OfUndo ns (Undo.Refused r) = CarriesOneOf r ns

abbrev pub OfComplete : List ℕ → CompleteAnswer → Type 0
OfComplete ns (Complete.Completed i s n) = Unit {0}
OfComplete ns (Complete.Refused r) = CarriesOneOf r ns

abbrev pub OfWritten : List ℕ → ℕ → ℕ → WrittenAnswer → Type 0
OfWritten ns n m (Write.Written k) = (k ≡ n) × (n ≤ m)
OfWritten ns n m (Write.Refused r) = CarriesOneOf r ns

abbrev pub OfRead : List ℕ → ℕ → ℕ → ReadAnswer → Type 0
OfRead ns n m (Read.Read k total) = (k ≡ n) × (n ≤ m)
OfRead ns n m (Read.Refused r) = CarriesOneOf r ns

-- behind a verdict: its refusal, or what is claimed of the rest
pub behind : {A : Type 0} (Of : List ℕ → A → Type 0) (ns : List ℕ) (v : Verdict) (refused : Refusal → A) (rest : A)
    → ((r : Refusal) → CarriesOneOf r ns → Of ns (refused r)) → OfVerdict ns v → Of ns rest → Of ns (unless_stopped v refused rest)
behind Of ns (Ok _) refused rest f h x = x
behind Of ns (Err r) refused rest f h x = f r h

-- the checks 1 and 2, and 3: of a state, and of a loan
first_chain : (ns : List ℕ) (a b : Bool) → OfVerdict (1 ∷ 2 ∷ ns) (unless a (stopped WrongLength) (unless b (stopped InvalidState) Go))
first_chain ns false b = refl
first_chain ns true false = refl
first_chain ns true true = tt

phase-chain : (ns : List ℕ) (c : Bool) → OfVerdict (1 ∷ 2 ∷ 3 ∷ ns) (unless c (stopped WrongPhase) Go)
phase-chain ns false = refl
phase-chain ns true = tt

pub state_numbers : (s : State) (ns : List ℕ) → OfVerdict (1 ∷ 2 ∷ ns) (state_verdict s)
state_numbers s ns = first_chain ns (lengths_ok s) (valid s)

pub phase-numbers : (p : ℕ) (s : State) (ns : List ℕ) → OfVerdict (1 ∷ 2 ∷ 3 ∷ ns) (phase_verdict p s)
phase-numbers p s ns =
    behind OfVerdict (1 ∷ 2 ∷ 3 ∷ ns) (state_verdict s) Stop _ (λ r h. h) (state_numbers s (3 ∷ ns)) (phase-chain ns (eqb (phase s.journal) p))

pub laid-numbers : (s : Loan) (ns : List ℕ) → OfVerdict (1 ∷ 2 ∷ 3 ∷ ns) (laid_verdict s)
laid-numbers s ns =
    behind OfVerdict (1 ∷ 2 ∷ 3 ∷ ns) (loan_verdict s) Stop _ (λ r h. h) (first_chain (3 ∷ ns) (loan_lengths_ok s) (loan_valid s))
    (phase-chain ns (eqb (phase s.state.journal) phase_laid))

-- Each entry's own checks, test by test: whatever the tests say, what comes out is one of its answers.
pub clear_chain : (a : Bool) → OfClear (1 ∷ []) (unless a (Clear.Refused (refuse WrongLength 0 0)) Clear.Cleared)
clear_chain false = refl
clear_chain true = tt

-- .. of taking, those behind 4
later_chain : (d e f g h i : Bool) (bad next : ℕ)
    → OfTake (5 ∷ 6 ∷ 7 ∷ 3 ∷ 8 ∷ [])
    (unless d (Take.Refused (refuse BadRecord bad 0))
    (unless e (Take.Refused (refuse BlockNumber 0 0))
    (cond f (unless g (Take.Refused (refuse BlockDiffers 0 0)) Take.Held)
    (unless h (Take.Refused (refuse WrongPhase 0 0))
    (unless i (Take.Refused (refuse JournalFull 0 0))
    (Take.Taken next))))))
later_chain false e f g h i bad next = refl
later_chain true false f g h i bad next = refl
later_chain true true true false h i bad next = refl
later_chain true true true true h i bad next = tt
later_chain true true false g false i bad next = refl
later_chain true true false g true false bad next = refl
later_chain true true false g true true bad next = tt

-- the answer to a block whose length 4 lets pass
abbrev pub take_later : List ℕ → ℕ → List ℕ → TakeAnswer
take_later j number b = unless (eqb (first_bad b) (records b)) (Take.Refused (refuse BadRecord (first_bad b) 0)) (take_numbered j number b)

pub later_numbers : (j : List ℕ) (number : ℕ) (b : List ℕ) → OfTake (5 ∷ 6 ∷ 7 ∷ 3 ∷ 8 ∷ []) (take_later j number b)
later_numbers j number b =
    later_chain (eqb (first_bad b) (records b)) (leb number (blocks j)) (ltb number (blocks j)) (same_block j number b) (eqb (phase j) phase_taking)
    (ltb (blocks j) most_blocks) (first_bad b) (blocks j + 1)

take_more : (m : ℕ) (ns : List ℕ) (a : TakeAnswer) → OfTake ns a → OfTake (m ∷ ns) a
take_more m ns (Take.Taken next) h = tt
take_more m ns Take.Held h = tt
take_more m ns (Take.Refused r) h = rw h (or-true (eqb (number_of r.cause) m))

pub take-chain : (c : Bool) (a : TakeAnswer) → OfTake (5 ∷ 6 ∷ 7 ∷ 3 ∷ 8 ∷ []) a
    → OfTake (1 ∷ 2 ∷ 4 ∷ 5 ∷ 6 ∷ 7 ∷ 3 ∷ 8 ∷ []) (unless c (Take.Refused (refuse BlockLength 0 0)) a)
take-chain false a h = refl
take-chain true a h =
    let last = 5 ∷ 6 ∷ 7 ∷ 3 ∷ 8 ∷ [] in
    take_more 1 (2 ∷ 4 ∷ last) a (take_more 2 (4 ∷ last) a (take_more 4 last a h))

pub length-chain : (c : Bool) (n : ℕ) → OfLength (1 ∷ 2 ∷ 6 ∷ []) (unless c (Len.Refused (refuse BlockNumber 0 0)) (Len.Length n))
length-chain false n = refl
length-chain true n = tt

pub verdict_chain : (a b c d : Bool) (i j k l : ℕ)
    → OfVerdict (1 ∷ 2 ∷ 3 ∷ 9 ∷ 10 ∷ 11 ∷ 12 ∷ [])
    (unless a (Stop (refuse OddDiagonal i i))
    (unless b (Stop (refuse RowNotDivisible j 0))
    (unless c (Stop (refuse CellTooLarge k l))
    (unless d (stopped TooManyVertices) Go))))
verdict_chain false b c d i j k l = refl
verdict_chain true false c d i j k l = refl
verdict_chain true true false d i j k l = refl
verdict_chain true true true false i j k l = refl
verdict_chain true true true true i j k l = tt

pub layout_numbers : (t : DegreeTable) → OfVerdict (1 ∷ 2 ∷ 3 ∷ 9 ∷ 10 ∷ 11 ∷ 12 ∷ []) (layout_verdict t)
layout_numbers t =
    let T = t.cells in
    verdict_chain (eqb (first_odd T) most_classes) (eqb (first_uneven T) most_classes) (eqb (first_overfull T) most_classes) (leb (vertices t) most_vertices)
    (first_odd T) (first_uneven T) (first_overfull T) (first_overfull_in T (first_overfull T))

-- the checks 13 and 14, behind 1 to 3
pub pair-numbers : (n v w : ℕ) (ns : List ℕ) → OfVerdict (1 ∷ 2 ∷ 3 ∷ 13 ∷ 14 ∷ ns) (pair_verdict n v w)
pair-numbers n v w ns = go (ltb v n) (ltb w n) (not (eqb v w))
  where
    go : (a b c : Bool)
        → OfVerdict (1 ∷ 2 ∷ 3 ∷ 13 ∷ 14 ∷ ns)
        (unless_stopped (unless a (stopped NoSuchVertex) Go) Stop
        (unless_stopped (unless b (stopped NoSuchVertex) Go) Stop
        (unless c (stopped SameVertex) Go)))
    go false b c = refl
    go true false c = refl
    go true true false = refl
    go true true true = tt

pub add-chain : (g h : Bool) (k l : ℕ) (s : Switches)
    → OfAdd (1 ∷ 2 ∷ 3 ∷ 13 ∷ 14 ∷ 15 ∷ 16 ∷ [])
    (unless g (Add.Refused (refuse EdgePresent 0 0))
    (unless h (Add.Refused (refuse CellNotShort k l))
    (Add.Added s)))
add-chain false h k l s = refl
add-chain true false k l s = refl
add-chain true true k l s = tt

pub remove-chain : (g : Bool)
    → OfRemove (1 ∷ 2 ∷ 3 ∷ 13 ∷ 14 ∷ 17 ∷ []) (unless g (Remove.Refused (refuse EdgeAbsent 0 0)) Remove.Removed)
remove-chain false = refl
remove-chain true = tt

pub swap-chain : (a b c : Bool)
    → OfSwap (1 ∷ 2 ∷ 3 ∷ 13 ∷ 23 ∷ 24 ∷ [])
    (unless a (Swap.Refused (refuse NoSuchVertex 0 0))
    (unless b (Swap.Refused (refuse SwapNotAllowed 0 0))
    (unless c (Swap.Refused (refuse LogFull 0 0))
    Swap.Swapped)))
swap-chain false b c = refl
swap-chain true false c = refl
swap-chain true true false = refl
swap-chain true true true = tt

pub undo-chain : (a : Bool) → OfUndo (1 ∷ 2 ∷ 3 ∷ 25 ∷ []) (unless a (Undo.Refused (refuse LogEmpty 0 0)) Undo.Undone)
undo-chain false = refl
undo-chain true = tt

pub complete-chain : (d : Bool) (i s n : ℕ)
    → OfComplete (1 ∷ 2 ∷ 3 ∷ 18 ∷ []) (unless d (Complete.Refused (refuse OutputTooShort 0 0)) (Complete.Completed i s n))
complete-chain false i s n = refl
complete-chain true i s n = tt

-- an output that is long enough, or the check 18, which is among the numbers
pub fits-chain : (ns : List ℕ) → one_of 18 ns ≡ true → (d : Bool) (n m : ℕ) → (d ≡ true → n ≤ m)
    → OfWritten ns n m (unless d (Write.Refused (refuse OutputTooShort 0 0)) (Write.Written n))
fits-chain ns e false n m h = e
fits-chain ns e true n m h = (refl, h refl)

-- the checks 19 of an edge list
pub list-numbers : (e : List ℕ) (total : ℕ) (ns : List ℕ) → OfVerdict (19 ∷ ns) (list_verdict e total)
list-numbers e total ns = go (leb total most_vertices) (eqb (length e % 2) 0) (eqb (first_bad_edge e total) (listed e))
  where
    go : (a b c : Bool)
        → OfVerdict (19 ∷ ns)
        (unless a (Stop (refuse BadEdgeList 0 0))
        (unless b (Stop (refuse BadEdgeList (listed e) 0))
        (unless c (Stop (refuse BadEdgeList (first_bad_edge e total) 0)) Go)))
    go false b c = refl
    go true false c = refl
    go true true false = refl
    go true true true = tt

pub survey-chain : (ns : List ℕ) → one_of 20 ns ≡ true → one_of 18 ns ≡ true → (c d : Bool) (k n m : ℕ) → (d ≡ true → n ≤ m)
    → OfWritten ns n m
    (unless c (Write.Refused (refuse DegreeTooHigh k 0))
    (unless d (Write.Refused (refuse OutputTooShort 0 0))
    (Write.Written n)))
survey-chain ns a b false d k n m h = a
survey-chain ns a b true d k n m h = fits-chain ns b d n m h

pub read_chain : (a b d : Bool) (n total m : ℕ) → (d ≡ true → n ≤ m)
    → OfRead (22 ∷ 21 ∷ 18 ∷ []) n m
    (unless a (Read.Refused (refuse Graph6Size 0 0))
    (unless b (Read.Refused (refuse Graph6Text 0 0))
    (unless d (Read.Refused (refuse OutputTooShort 0 0))
    (Read.Read n total))))
read_chain false b d n total m h = refl
read_chain true false d n total m h = refl
read_chain true true false n total m h = refl
read_chain true true true n total m h = (refl, h refl)
