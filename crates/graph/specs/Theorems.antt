-- What is proved of simple graphs and the joint degree matrix. Each statement is a type; its proof, a value of that type,
-- stands in the module of proofs/ that is named beside it.
-- Assumes nothing.
use Rattle.std.specs.Prelude.{◌≡◌, Bool, true, false, ◌↔◌, ◌≢◌, ℕ, ◌+◌, ◌*◌, ◌%◌, ◌≤◌, ◌<◌}
use Rattle.finite.specs.Range.{δ, sum_to, iterate}
use Rattle.graph.specs.Graph.{Graph, Simple, degree, edges, size, jdm, own_jdm, at_edge, AddsEdge}
use Rattle.graph.specs.Target.{cell_most, Target, Partial, Short, Open}
use Rattle.graph.specs.Switch.{unsaturated, substitute, transfer, Switched, Joined}
use Rattle.graph.specs.Tests.{Table, passes}

-- 2. Necessary (proofs/Necessary.antt): what holds of the matrix of every simple graph, at every classification.
pub record Necessary (n C : ℕ) (cls : ℕ → ℕ) (E : Graph) : Type 0 where
  pub symmetric : (k l : ℕ) → jdm n cls E k l ≡ jdm n cls E l k
  pub even : (k : ℕ) → jdm n cls E k k % 2 ≡ 0
  pub rows : (k : ℕ) → sum_to C (jdm n cls E k) ≡ sum_to n (λ v. δ (cls v) k * degree n E v)
  pub fits : (k l : ℕ) → jdm n cls E k l ≤ cell_most (size n cls) k l

abbrev pub NecessaryAlways : Type 0
NecessaryAlways =
    (n C : ℕ) (cls : ℕ → ℕ) (E : Graph) → Simple n E → ((v : ℕ) → v < n → cls v < C) → Necessary n C cls E

-- 3. Update (proofs/Update.antt): what one edge x – y more changes.
pub record Updated (n : ℕ) (cls : ℕ → ℕ) (E : Graph) (x y : ℕ) (E' : Graph) : Type 0 where
  pub cells : (k l : ℕ) → jdm n cls E' k l ≡ jdm n cls E k l + at_edge (cls x) (cls y) k l
  pub degrees : (v : ℕ) → v < n → degree n E' v ≡ degree n E v + (δ v x + δ v y)
  pub count : edges n E' ≡ edges n E + 1

abbrev pub AddingUpdates : Type 0
AddingUpdates =
    (n : ℕ) (cls : ℕ → ℕ) (E E' : Graph) (x y : ℕ) → x < n → y < n → x ≢ y → AddsEdge n E x y E' →
    Simple n E → E x y ≡ 0 → Simple n E' × (E' x y ≡ 1) × Updated n cls E x y E'

abbrev pub RemovingUpdates : Type 0
RemovingUpdates =
    (n : ℕ) (cls : ℕ → ℕ) (E E' : Graph) (x y : ℕ) → x < n → y < n → x ≢ y → AddsEdge n E x y E' →
    Simple n E' → Simple n E × (E x y ≡ 0) × Updated n cls E x y E'

-- 4. The neighbour switch (proofs/Switch.antt), for all degrees together. a and o are the two named vertices.
module _ (n C : ℕ) (cls deg : ℕ → ℕ) (T : ℕ → ℕ → ℕ) (E : Graph) (a o : ℕ) where
  -- the choices b and t exist and are right
  pub record Choices (b t : ℕ) : Type 0 where
    pub b_vertex : b < n
    pub b_class : cls b ≡ cls a
    pub b_room : degree n E b < deg (cls b)
    pub b_last : b ≡ o → degree n E o + 1 < deg (cls o)
    pub b_other : b ≢ a
    pub t_vertex : t < n
    pub t_linked : E a t ≡ 1
    pub t_unlinked : E b t ≡ 0
    pub t_not_b : t ≢ b
    pub t_not_a : t ≢ a
    pub t_not_o : t ≢ o

  -- what the switch keeps and what it moves
  pub record Kept (b : ℕ) (E' : Graph) : Type 0 where
    pub partial : Partial n C cls deg T E'
    pub cells : (k l : ℕ) → jdm n cls E' k l ≡ jdm n cls E k l
    pub from_a : degree n E' a + 1 ≡ degree n E a
    pub to_b : degree n E' b ≡ degree n E b + 1
    pub others : (v : ℕ) → v < n → v ≢ a → v ≢ b → degree n E' v ≡ degree n E v
    pub same_count : edges n E' ≡ edges n E
    pub unlinked : E' a o ≡ 0
    pub o_able : degree n E o < deg (cls o) → degree n E' o < deg (cls o)

abbrev pub SwitchWorks : Type 0
SwitchWorks =
    (n C : ℕ) (cls deg : ℕ → ℕ) (T : ℕ → ℕ → ℕ) (E : Graph) (a o : ℕ) →
    Target n C cls deg T → Partial n C cls deg T E → Open n cls T E a o → unsaturated n cls deg E a ≡ false →
    let b = substitute n cls deg E a o in
    let t = transfer n E a b in
    Choices n C cls deg T E a o b t × ((E' : Graph) → Switched n E a b t E' → Kept n C cls deg T E a o b E')

-- after both steps and the edge
pub record AfterJoin (n C : ℕ) (cls deg : ℕ → ℕ) (T : ℕ → ℕ → ℕ) (E : Graph) (v w : ℕ) (twice E' : Graph) : Type 0 where
  pub room_v : degree n twice v < deg (cls v)
  pub room_w : degree n twice w < deg (cls w)
  pub unlinked : twice v w ≡ 0
  pub partial : Partial n C cls deg T E'
  pub linked : E' v w ≡ 1
  pub cells : (k l : ℕ) → jdm n cls E' k l ≡ jdm n cls E k l + at_edge (cls v) (cls w) k l
  pub one_more : edges n E' ≡ edges n E + 1

abbrev pub JoinWorks : Type 0
JoinWorks =
    (n C : ℕ) (cls deg : ℕ → ℕ) (T : ℕ → ℕ → ℕ) (E : Graph) (v w : ℕ) →
    Target n C cls deg T → Partial n C cls deg T E → Open n cls T E v w →
    (E' : Graph) → (j : Joined n cls deg E v w E') → AfterJoin n C cls deg T E v w j.twice E'

-- 5. A short cell has an open pair (proofs/OpenPair.antt), on the diagonal too. It is named lower vertex first there.
abbrev pub ShortHasOpenPair : Type 0
ShortHasOpenPair =
    (n C : ℕ) (cls deg : ℕ → ℕ) (T : ℕ → ℕ → ℕ) (E : Graph) →
    Target n C cls deg T → Partial n C cls deg T E →
    (k l : ℕ) → k < C → l < C → Short n cls T E k l →
    (v w : ℕ) × (cls v ≡ k) × (cls w ≡ l) × (k ≡ l → v < w) × Open n cls T E v w

-- 6. Complete means exact (proofs/Complete.antt).
abbrev pub CompleteIsExact : Type 0
CompleteIsExact =
    (n C : ℕ) (cls deg : ℕ → ℕ) (T : ℕ → ℕ → ℕ) (E : Graph) →
    Target n C cls deg T → Partial n C cls deg T E →
    ((k l : ℕ) → k < C → l < C → jdm n cls E k l ≡ T k l) →
    (v : ℕ) → v < n → degree n E v ≡ deg (cls v)

-- and where a class is a degree, the matrix at the graph's own degrees is the target
abbrev pub CompleteHasTarget : Type 0
CompleteHasTarget =
    (n C : ℕ) (cls : ℕ → ℕ) (T : ℕ → ℕ → ℕ) (E : Graph) →
    Target n C cls (λ k. k) T → Partial n C cls (λ k. k) T E →
    ((k l : ℕ) → k < C → l < C → jdm n cls E k l ≡ T k l) →
    (k l : ℕ) → k < C → l < C → own_jdm n E k l ≡ T k l

-- 7. Existence (proofs/Existence.antt). Over classes: every target is reached by some graph.
abbrev pub TargetReached : Type 0
TargetReached =
    (n C : ℕ) (cls deg : ℕ → ℕ) (T : ℕ → ℕ → ℕ) → Target n C cls deg T →
    (E : Graph) × Partial n C cls deg T E × ((k l : ℕ) → k < C → l < C → jdm n cls E k l ≡ T k l)

-- Over degrees: a simple graph of some (finite) size has T, in every cell, at its own degrees ..
abbrev pub Realized : (ℕ → ℕ → ℕ) → Type 0
Realized T = (n : ℕ) × (E : Graph) × Simple n E × ((k l : ℕ) → own_jdm n E k l ≡ T k l)

-- .. if and only if T passes document 01's tests 9, 10 and 11.
abbrev pub Realizability : Type 0
Realizability = (T : ℕ → ℕ → ℕ) → Table T → (passes T ≡ true) ↔ Realized T

-- 8. Completing by any rule (proofs/Completion.antt). A rule works on states of its own; a state stands for a graph and the joins so far. It sees
-- whether a cell is short, and where one is it joins some open pair. `Good` is what it needs to hold all along.
pub record Rule (n C : ℕ) (cls deg : ℕ → ℕ) (T : ℕ → ℕ → ℕ) (S : Type 0) : Type 1 where
  pub graph : S → Graph
  pub joins : S → ℕ
  pub short : S → Bool
  pub next : S → S
  pub Good : S → Type 0
  pub partial : (s : S) → Good s → Partial n C cls deg T (graph s)
  pub stops : (s : S) → Good s → short s ≡ false → (k l : ℕ) → k < C → l < C → jdm n cls (graph s) k l ≡ T k l
  pub picks : (s : S) → Good s → short s ≡ true →
      (v w : ℕ) × Open n cls T (graph s) v w × Joined n cls deg (graph s) v w (graph (next s)) × Good (next s)
  pub counts : (s : S) → joins (next s) ≡ joins s + 1

-- the sum of all cells, (k, l) and (l, k) both counted
abbrev pub all_cells : ℕ → (ℕ → ℕ → ℕ) → ℕ
all_cells C M = sum_to C (λ k. sum_to C (M k))

-- from s the rule ends in r: every cell is at its target, and it made exactly as many joins as edges were missing
pub record Ended (n C : ℕ) (cls deg : ℕ → ℕ) (T : ℕ → ℕ → ℕ) {S : Type 0} (rule : Rule n C cls deg T S) (s r : S) : Type 0 where
  pub good : rule.Good r
  pub full : (k l : ℕ) → k < C → l < C → jdm n cls (rule.graph r) k l ≡ T k l
  pub counted : rule.joins r + edges n (rule.graph s) ≡ rule.joins s + edges n (rule.graph r)
  pub missing : all_cells C T ≡ 2 * edges n (rule.graph r)

-- with fuel for what is missing
abbrev pub CompletesByAnyRule : Type 1
CompletesByAnyRule =
    (n C : ℕ) (cls deg : ℕ → ℕ) (T : ℕ → ℕ → ℕ) → Target n C cls deg T → (S : Type 0) (rule : Rule n C cls deg T S) →
    (fuel : ℕ) (s : S) → rule.Good s → all_cells C T ≤ 2 * (edges n (rule.graph s) + fuel) →
    Ended n C cls deg T rule s (iterate fuel rule.short rule.next s)
