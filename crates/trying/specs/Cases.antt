-- The way of trying a case: the entries' definitions run on its calls from a cleared state with an empty log; what all calls hand back, in document 01's
-- numbers and the bytes of their outputs, and the edges in the end are compared, and of some cases the log too.
-- Assumes nothing.
use Rattle.std.specs.Prelude.{◌≡◌, Bool, true, false, ◌&&◌, List, [], ◌∷◌, ◌++◌, ℕ, eqb, length, take as first, replicate}
use Rattle.answer.specs.Numbers.{done}
use Rattle.answer.specs.declared.Choice.{Choice}
use Rattle.answer.specs.declared.Choice.TheVariants.{Lowest}
use Rattle.state.specs.Laid.{vertex_count}
use Rattle.swapping.specs.Swap.{swap_of}
use Rattle.loan.specs.Loan.{Loan, cleared_loan}
use Rattle.edge_list.specs.List.{list_bytes}
use Rattle.demands.specs.Calls as Calls
use Rattle.demands.specs.Calls.{Call, changes, reads, after}
use Rattle.demands.specs.Answers.{six, answer_of}

-- the calls, as the lists below name them
abbrev pub take : ℕ → List ℕ → Call
take number b = changes (Calls.take number b)

abbrev pub lay_out_call : Call
lay_out_call = changes Calls.lay_out_call

abbrev pub add : ℕ → ℕ → Call
add v w = changes (Calls.add v w)

abbrev pub remove : ℕ → ℕ → Call
remove v w = changes (Calls.remove v w)

abbrev pub complete : Choice → List ℕ → Call
complete f out = changes (Calls.complete f out)

abbrev pub swap : ℕ → ℕ → ℕ → ℕ → Call
swap a b c d = changes (Calls.swap (swap_of a b c d))

abbrev pub undo : Call
undo = changes Calls.undo

abbrev pub read_back_call : ℕ → Call
read_back_call number = reads (Calls.read_back_call number)

abbrev pub list : List ℕ → Call
list out = reads (Calls.list out)

abbrev pub figures : Call
figures = reads Calls.figures

abbrev pub survey : List ℕ → ℕ → List ℕ → Call
survey e total out = reads (Calls.survey e total out)

-- a call and what it is to hand back
pub record Step : Type 0 where
  pub call : Call
  pub answer : List ℕ

infix 68 ◌gives◌
abbrev pub ◌gives◌ : Call → List ℕ → Step
c gives n = record { call = c; answer = n }

-- a case: calls from a cleared state with their answers, and the edges in the end, two bytes each
pub record Case : Type 0 where
  pub steps : List Step
  pub edges : List ℕ

abbrev pub same_list : List ℕ → List ℕ → Bool
same_list [] [] = true
same_list [] (n ∷ ns) = false
same_list (m ∷ ms) [] = false
same_list (m ∷ ms) (n ∷ ns) = eqb m n && same_list ms ns

abbrev pub edges_of : Loan → List ℕ
edges_of s = list_bytes (vertex_count s.state) s.state.adjacency

-- from the loan s every call gets its answer, and what is lent in the end passes a test
abbrev pub runs : (Loan → Bool) → Loan → List Step → Bool
runs ends s [] = ends s
runs ends s (x ∷ xs) = same_list (answer_of s x.call) x.answer && runs ends (after s x.call) xs

-- these are the edges in the end
abbrev pub has_edges : List ℕ → Loan → Bool
has_edges es s = same_list (edges_of s) es

abbrev pub holds : Case → Bool
holds c = runs (has_edges c.edges) cleared_loan c.steps

abbrev pub all_hold : List Case → Bool
all_hold [] = true
all_hold (c ∷ cs) = holds c && all_hold cs

-- a case, and the bytes with which the log begins in the end
pub record LogCase : Type 0 where
  pub case : Case
  pub log : List ℕ

abbrev pub begins_log : List ℕ → Loan → Bool
begins_log ls s = same_list (first (length ls) s.log) ls

abbrev pub log_holds : LogCase → Bool
log_holds c = runs (λ s. has_edges c.case.edges s && begins_log c.log s) cleared_loan c.case.steps

abbrev pub logs_hold : List LogCase → Bool
logs_hold [] = true
logs_hold (c ∷ cs) = log_holds c && logs_hold cs

-- answers by name: a block taken, with the number of the next; a block held; a block read back, with its length; N laid out; an edge removed; edges swapped, and
-- swapped back; joins,
-- switches and output of a completing, and of one by x, with the last x; an output with its written length; the figures; a refusal, with the output as it was
abbrev pub taken : ℕ → List ℕ
taken next = six (done 0 next)

abbrev pub held : List ℕ
held = six (done 1 0)

abbrev pub part : List ℕ → List ℕ
part b = six (done (length b) 0) ++ b

abbrev pub laid_out : ℕ → List ℕ
laid_out n = six (done n 0)

abbrev pub removed : List ℕ
removed = six (done 0 0)

abbrev pub swapped : List ℕ
swapped = six (done 0 0)

abbrev pub undone : List ℕ
undone = six (done 0 0)

abbrev pub completed : ℕ → ℕ → ℕ → List ℕ → List ℕ
completed joins switches n out = 0 ∷ joins ∷ switches ∷ n ∷ 0 ∷ 0 ∷ out

abbrev pub completed_at : ℕ → ℕ → ℕ → ℕ → List ℕ → List ℕ
completed_at joins switches n x out = 0 ∷ joins ∷ switches ∷ n ∷ x ∷ 0 ∷ out

abbrev pub written : ℕ → List ℕ → List ℕ
written n out = six (done n 0) ++ out

abbrev pub report : ℕ → ℕ → ℕ → ℕ → ℕ → List ℕ
report phase blocks n wanted laid = 0 ∷ phase ∷ blocks ∷ n ∷ wanted ∷ laid ∷ []

abbrev pub no : ℕ → ℕ → ℕ → List ℕ
no n a b = n ∷ a ∷ b ∷ 0 ∷ 0 ∷ 0 ∷ []

abbrev pub no_into : ℕ → List ℕ → List ℕ
no_into n out = n ∷ 0 ∷ 0 ∷ 0 ∷ 0 ∷ 0 ∷ out

-- a join's answer: without a switch, with one, with two; refused
abbrev pub joined : List ℕ
joined = 0 ∷ 0 ∷ 0 ∷ 255 ∷ 255 ∷ 255 ∷ 255 ∷ 255 ∷ 255 ∷ []

abbrev pub joined_by : ℕ → ℕ → ℕ → List ℕ
joined_by a b t = 0 ∷ 1 ∷ 0 ∷ a ∷ b ∷ t ∷ 255 ∷ 255 ∷ 255 ∷ []

abbrev pub joined_by_two : ℕ → ℕ → ℕ → ℕ → ℕ → ℕ → List ℕ
joined_by_two a b t c d u = 0 ∷ 2 ∷ 0 ∷ a ∷ b ∷ t ∷ c ∷ d ∷ u ∷ []

abbrev pub no_join : ℕ → ℕ → ℕ → List ℕ
no_join n a b = n ∷ a ∷ b ∷ 0 ∷ 0 ∷ 0 ∷ 0 ∷ 0 ∷ 0 ∷ []

-- the record of a join: without a switch, with one, with two
abbrev pub join : ℕ → ℕ → List ℕ → List ℕ
join v w rest = v ∷ w ∷ 255 ∷ 255 ∷ 255 ∷ 255 ∷ 255 ∷ 255 ∷ rest

abbrev pub join_by : ℕ → ℕ → ℕ → ℕ → ℕ → List ℕ → List ℕ
join_by v w a b t rest = v ∷ w ∷ a ∷ b ∷ t ∷ 255 ∷ 255 ∷ 255 ∷ rest

abbrev pub join_by_two : ℕ → ℕ → ℕ → ℕ → ℕ → ℕ → ℕ → ℕ → List ℕ → List ℕ
join_by_two v w a b t c d u rest = v ∷ w ∷ a ∷ b ∷ t ∷ c ∷ d ∷ u ∷ rest

-- an output of n bytes, each 7
abbrev pub sevens : ℕ → List ℕ
sevens n = replicate n 7

-- a record: k, l, and a count below 256
abbrev pub rec : ℕ → ℕ → ℕ → List ℕ → List ℕ
rec k l n rest = k ∷ l ∷ n ∷ 0 ∷ rest

-- the smallest graph: refusals that compete, where 13 comes before 14, and one link
abbrev pub smallest : List Case
smallest =
    record {
      steps =
          take 0 (rec 1 1 2 []) gives taken 1 ∷ lay_out_call gives laid_out 2 ∷ add 2 2 gives no_join 13 0 0 ∷ add 1 1 gives no_join 14 0 0
          ∷ complete Lowest (sevens 8) gives completed 1 0 8 (join 0 1 []) ∷ [];
      edges = 0 ∷ 1 ∷ [];
    }
    ∷ []

-- one theorem over the list, as of every list of cases: proofs/Cases.antt `smallest-holds`
abbrev pub SmallestHolds : Type 0
SmallestHolds = all_hold smallest ≡ true
