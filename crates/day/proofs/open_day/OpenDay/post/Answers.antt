use Rattle.std.proofs.Common.{◌≡◌, rules, ap, ◌∙◌}
use Rattle.refusal.specs.Checks.{viewed}
use Rattle.register.specs.Held.{places_in}
use Rattle.register.specs.Views.{view_answer}
use Rattle.register.proofs.Views.{answer_view, put_view}
use Rattle.postings.specs.Postings.{said, shape}
use Rattle.day.proofs.open_day.OpenDay.post.Goals as goal

pub returns : goal.returns
returns c =
    let xs = places_in c.args.self.now.records in
    let p = c.in_ok-posting.posting in
    let read = c.in_ok-posting.ensures.value in
    let is : c.map.result ≡ viewed (λ _. tt) (view_answer said c.put.result) = search rules in
    record {
      answers = rw read (is ∙ ap (λ r. viewed (λ _. tt) (view_answer said r)) c.put.ensures.answers ∙ ap (viewed (λ _. tt)) (answer_view said shape xs p));
      leaves = rw (read, c.put.ensures.leaves, put_view said shape xs p);
    }
