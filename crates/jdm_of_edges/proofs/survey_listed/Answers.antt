-- `jdm_of_edges::survey_listed` meets its contract: each check decides as the definition has it.
use mathlib.Core.Path.{refl, sym, ap, subst, ◌∙◌}
use Prim.Native.Nat.{ℕ, ◌<◌}
use native.Mathlib.Omega.{arith}
use lib.ListN.{length}
use borrow.Author.Tests.{le-leb, lt-leb, eq-eqb, ne_eqb}
use Rattle.answer.specs.declared.WrittenAnswer.TheVariants.{Written, Refused}
use Rattle.degree_counts.specs.Above.{first_above}
use Rattle.degree_counts.proofs.Degrees.{above_same}
use Rattle.jdm_of_edges.proofs.Survey.{records-written}
use Rattle.jdm_of_edges.proofs.survey_listed.Goals as goal

pub returns-in-Some : goal.returns-in-Some
returns-in-Some c =
    let a = c.args in
    let same = above_same a.edges.now c.degrees_of-degrees.result a.total c.degrees_of-degrees.ensures in
    let above = c.in-Some.ensures.0 ∙ same in
    let n = ne_eqb (first_above a.edges.now a.total) a.total (λ q. omega (arith, q, same, c.in-Some.ensures.1)) in
    record { value = rw (n, ← above) (ap Refused c.refuse.ensures); output_after = rw n refl }

pub own_records-length-requires : goal.own_records-length-requires
own_records-length-requires c =
    let a = c.args in
    let same = above_same a.edges.now c.degrees_of-degrees.result a.total c.degrees_of-degrees.ensures in
    (c.requires, sym same ∙ c.in_default.ensures, c.degrees_of-degrees.ensures)

pub returns-then-output-length : goal.returns-then-output-length
returns-then-output-length c =
    let a = c.args in
    let same = above_same a.edges.now c.degrees_of-degrees.result a.total c.degrees_of-degrees.ensures in
    let none = eq-eqb _ _ (sym same ∙ c.in_default.ensures) in
    let short = subst (λ (m : ℕ). length a.output.now < m) c.own_records-length.ensures.value.0 c.if-output-length.true in
    record { value = rw (none, lt-leb _ _ short) (ap Refused c.refuse-then-output-length.ensures); output_after = rw (none, lt-leb _ _ short) refl }

pub returns : goal.returns
returns c =
    let a = c.args in
    let same = above_same a.edges.now c.degrees_of-degrees.result a.total c.degrees_of-degrees.ensures in
    let none = eq-eqb _ _ (sym same ∙ c.in_default.ensures) in
    let n = c.own_records-length.ensures.value in
    let fits = rw n.0 at c.if-output-length.false in
    record {
      value = rw (none, le-leb _ _ fits) (ap Written n.0);
      output_after = rw (none, le-leb _ _ fits) (c.copy_in.ensures ∙ rw (c.own_records-length.ensures.records_after, records-written a.edges.now a.total _ n.0 n.1));
    }
