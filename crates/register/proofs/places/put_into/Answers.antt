use Rattle.std.proofs.Common.{Err, ap, ◌∙◌}
use Rattle.refusal.specs.declared.Refusal.TheVariants.{VersionNotHigher}
use Rattle.register.proofs.Positions.{put_higher, put_not_higher, put_free, put_full}
use Rattle.register.proofs.places.put_into.Goals as goal

pub returns-in_default-free_place : goal.returns-in_default-free_place
returns-in_default-free_place g c =
    let done = put_full g.E.Entry.shape c.args.places.now c.args.e c.key.result c.key.ensures c.in_default.ensures c.in_default-free_place.ensures in
    record { answers = done.answers; leaves = done.leaves }

pub returns-in_default : goal.returns-in_default
returns-in_default g c =
    let done = put_free g.E.Entry.shape c.args.places.now c.args.e c.key.result c.key.ensures c.in-Some-free_place.i c.in_default.ensures c.in-Some-free_place.ensures in
    record { answers = done.answers; leaves = done.leaves }

pub returns-then-not-supersedes : goal.returns-then-not-supersedes
returns-then-not-supersedes g c =
    let done = put_not_higher g.E.Entry.shape c.args.places.now c.args.e c.key.result c.key.ensures c.in-Some.i c.index-places-i.result c.index-places-i.is c.in-Some.ensures c.if-not-supersedes.ensures in
    record { answers = ap (λ d. Err (VersionNotHigher d)) c.document.ensures ∙ done.answers; leaves = done.leaves }

pub returns : goal.returns
returns g c =
    let done = put_higher g.E.Entry.shape c.args.places.now c.args.e c.key.result c.key.ensures c.in-Some.i c.index-places-i.result c.index-places-i.is c.in-Some.ensures c.if-not-supersedes.ensures in
    record { answers = done.answers; leaves = done.leaves }
