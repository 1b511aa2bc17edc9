use Rattle.std.proofs.Common.{rules, arith, ◌≡◌, ℕ, ℤ, pos, List, ◌++◌, length, map, take, drop, to_z, of_z, ◌^◌, sym, ap, ◌∙◌}
use Rattle.std.specs.Int.{w128}
use Rattle.std.proofs.lemmas.Int.{to_z-of_z}
use Rattle.std.proofs.lemmas.List.{length-map}
use mir.Val.{SFits}
use Rattle.sv_linear.specs.Terms.{terms_value}
use Rattle.sv_linear.specs.Quotients.{quotient, divided_term}
use Rattle.sv_linear.proofs.Contents.{content_small, whole_written, divided_ascends, divided_value, divided_primitive, quotient-exact}
use Rattle.sv_linear.proofs.Homogeneous.{one_times, hom_divided}
use Rattle.sv_linear.proofs.form.Form.into_primitive.Goals as goal

pub returns-then-by-lt2 : goal.returns-then-by-lt2
returns-then-by-lt2 c = record {
  factor = 1;
  positive = omega arith;
  value = λ x d. sym (one_times _);
  primitive = λ g k. content_small _ _ _ g c.content-by.ensures (omega arith) k;
}

-- the written list is that of the quotients
quotients : (coefficients before items terms made : List (ℕ × ℤ)) (n by : ℕ) → items ≡ coefficients → before ≡ items → terms ≡ map (divided_term by) before → made ≡ take n (terms ++ drop (length terms) items) →
    length before ≡ n → made ≡ map (divided_term by) coefficients
quotients coefficients before items terms made n by e f g h k =
    let same : length terms ≡ length before = ap length g ∙ length-map before (divided_term by) in
    h ∙ whole_written terms items n (sym k ∙ sym same) (same ∙ ap length f) ∙ g ∙ ap (map (divided_term by)) (f ∙ e)

pub invariant_of-result : goal.invariant_of-result
invariant_of-result c =
    let made = quotients c.args.self.coefficients c.deref_mut.result.now c.into_vec-terms.result.items c.divide_terms.new.terms c.from_vec.result c.into_vec-terms.result.len c.content-by.result
    c.into_vec-terms.ensures c.deref_mut.ensures.value c.divide_terms.ensures c.from_vec.ensures c.deref_mut.ensures.len in
    record { ascending = rw made (divided_ascends c.content-by.result (omega arith) 0 (2 ^ 32) c.args.self.coefficients c.content-by.ensures.divides.of_terms c.args.self.ascending) }

pub returns : goal.returns
returns c =
    let fc : SFits w128 c.args.self.constant = search rules in
    let fq : SFits w128 c.divide_number.result = search rules in
    let own : to_z w128 (of_z w128 c.divide_number.result) ≡ quotient c.args.self.constant c.content-by.result = to_z-of_z w128 _ fq ∙ rw (to_z-of_z w128 _ fc) at c.divide_number.ensures in
    let made = quotients c.args.self.coefficients c.deref_mut.result.now c.into_vec-terms.result.items c.divide_terms.new.terms c.from_vec.result c.into_vec-terms.result.len c.content-by.result
    c.into_vec-terms.ensures c.deref_mut.ensures.value c.divide_terms.ensures c.from_vec.ensures c.deref_mut.ensures.len in
    record {
      factor = c.content-by.result;
      positive = omega arith;
      value = λ x d. rw (made, own) (hom_divided (terms_value x (map (divided_term c.content-by.result) c.args.self.coefficients)) (terms_value x c.args.self.coefficients) (quotient c.args.self.constant c.content-by.result) c.args.self.constant (pos c.content-by.result) d
          (divided_value c.content-by.result (omega arith) x c.args.self.coefficients c.content-by.ensures.divides.of_terms)
          (quotient-exact c.args.self.constant c.content-by.result (omega arith) c.content-by.ensures.divides.of_constant));
      primitive = λ g k. divided_primitive c.content-by.result (omega arith) c.args.self.constant c.args.self.coefficients c.content-by.ensures g (rw (made, own) at k);
    }
