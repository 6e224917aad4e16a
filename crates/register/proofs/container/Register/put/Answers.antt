use Rattle.std.proofs.Common.{sym, ap, subst, ◌∙◌}
use Rattle.register.specs.Registers.{put_answer, distinct, HeldAfter}
use Rattle.register.proofs.Laws.{held_after}
use Rattle.register.proofs.container.Register.put.Goals as goal

pub invariant_of-self : goal.invariant_of-self
invariant_of-self g c =
    let w = g.E.Entry.shape in
    let laws = held_after w g.met.E.Entry.decides c.args.self.now.places.now c.args.e in
    record { keys = ap (distinct w) c.put_into.ensures.leaves ∙ laws.keys c.args.self.now.keys }

pub returns : goal.returns
returns g c =
    let w = g.E.Entry.shape in
    let xs = c.args.self.now.places.now in
    let e = c.args.e in
    let laws = held_after w g.met.E.Entry.decides xs e in
    record {
      answers = c.put_into.ensures.answers;
      leaves = c.put_into.ensures.leaves;
      laws = subst (λ r. HeldAfter w e r xs c.put_into.new.places) (sym c.put_into.ensures.answers) (subst (λ ys. HeldAfter w e (put_answer w xs e) xs ys) (sym c.put_into.ensures.leaves) laws);
    }
