-- A layer and a refusal in words for a person. Assumes nothing.
use Rattle.std.specs.Prelude.{ℕ, List, codes}
use Rattle.refusal.specs.declared.Refusal.{Refusal}
use Rattle.refusal.specs.declared.Refusal.TheVariants.{MemberCount, SiteCount, SiteWithoutMember, BadName, RecordLength, UnknownKind, UnknownDirection, WrongHour, WrongVersion, MalformedName, UnknownName, WrongNumber, VersionNotHigher, RegisterFull, WrongPostingArgument, SignalLength, WrongSample, WatchLength, WrongMinute, WrongArgument, NotPosted}
use Rattle.refusal.specs.declared.Layer.{Layer}
use Rattle.refusal.specs.declared.Layer.TheVariants.{Record as RecordLayer, Register as RegisterLayer, Day as DayLayer}

abbrev pub layer_text : Layer → List ℕ
layer_text RecordLayer = codes "record"
layer_text RegisterLayer = codes "register"
layer_text DayLayer = codes "day"

-- a refusal in a few words
abbrev pub explanation : Refusal → List ℕ
explanation MemberCount = codes "a roster has 1 to 16 members"
explanation SiteCount = codes "a roster has at most 32 sites"
explanation (SiteWithoutMember i) = codes "the site's member is not on the roster"
explanation (BadName i) = codes "the name is wrong or stands twice"
explanation RecordLength = codes "a record has 64 bytes, the last a newline"
explanation UnknownKind = codes "the kind is unknown"
explanation UnknownDirection = codes "the direction is not U or D"
explanation WrongHour = codes "the hour is not 00 to 23"
explanation WrongVersion = codes "the version or bill number is not 001 to 999"
explanation MalformedName = codes "the name is malformed, or blank or filled against its kind"
explanation UnknownName = codes "the name is not on the roster"
explanation (WrongNumber i) = codes "the number has not six digits or is past its limit"
explanation (VersionNotHigher d) = codes "a version as high is held, or the bill is"
explanation RegisterFull = codes "every place is taken"
explanation (WrongPostingArgument i) = codes "the argument of the posting is out of range"
explanation SignalLength = codes "a signal quarter has 1800 bytes"
explanation (WrongSample i) = codes "the sample is out of limits"
explanation WatchLength = codes "a watch quarter has 420 bytes"
explanation (WrongMinute i) = codes "the minute is bad"
explanation (WrongArgument i) = codes "the argument is out of range"
explanation NotPosted = codes "the award or the watch quarter is not posted"
