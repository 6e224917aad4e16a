use Rattle.register.proofs.Views.{fresh_view}
use Rattle.postings.specs.Postings.{said, shape}
use Rattle.day.proofs.open_day.OpenDay.open.Goals as goal

pub returns : goal.returns
returns c = rw (c.new.ensures, fresh_view said shape)
