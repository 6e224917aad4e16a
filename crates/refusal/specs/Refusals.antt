-- The number, the layer and the place of each refusal. Assumes nothing.
use Rattle.std.specs.Prelude.{ℕ, ◌+◌, ◌*◌}
use Rattle.refusal.specs.declared.Refusal.{Refusal}
use Rattle.refusal.specs.declared.Refusal.TheVariants.{MemberCount, SiteCount, SiteWithoutMember, BadName, RecordLength, UnknownKind, UnknownDirection, WrongHour, WrongVersion, MalformedName, UnknownName, WrongNumber, VersionNotHigher, RegisterFull, WrongPostingArgument, SignalLength, WrongSample, WatchLength, WrongMinute, WrongArgument, NotPosted}
use Rattle.refusal.specs.declared.Document.{Document}
use Rattle.refusal.specs.declared.Document.TheVariants.{Record, Signal, Watch}
use Rattle.refusal.specs.declared.Layer.{Layer}
use Rattle.refusal.specs.declared.Layer.TheVariants.{Record as RecordLayer, Register as RegisterLayer, Day as DayLayer}

abbrev pub number_of : Refusal → ℕ
number_of MemberCount = 1
number_of SiteCount = 2
number_of (SiteWithoutMember i) = 2
number_of (BadName i) = 3
number_of RecordLength = 10
number_of UnknownKind = 11
number_of UnknownDirection = 12
number_of WrongHour = 13
number_of WrongVersion = 14
number_of MalformedName = 15
number_of UnknownName = 16
number_of (WrongNumber i) = 17
number_of (VersionNotHigher d) = 18
number_of RegisterFull = 19
number_of (WrongPostingArgument i) = 20
number_of SignalLength = 21
number_of (WrongSample i) = 22
number_of WatchLength = 23
number_of (WrongMinute i) = 24
number_of (WrongArgument i) = 50
number_of NotPosted = 51

abbrev pub layer_of : Refusal → Layer
layer_of MemberCount = DayLayer
layer_of SiteCount = DayLayer
layer_of (SiteWithoutMember i) = DayLayer
layer_of (BadName i) = DayLayer
layer_of RecordLength = RecordLayer
layer_of UnknownKind = RecordLayer
layer_of UnknownDirection = RecordLayer
layer_of WrongHour = RecordLayer
layer_of WrongVersion = RecordLayer
layer_of MalformedName = RecordLayer
layer_of UnknownName = RecordLayer
layer_of (WrongNumber i) = RecordLayer
layer_of (VersionNotHigher d) = RegisterLayer
layer_of RegisterFull = RegisterLayer
layer_of (WrongPostingArgument i) = RecordLayer
layer_of SignalLength = RecordLayer
layer_of (WrongSample i) = RecordLayer
layer_of WatchLength = RecordLayer
layer_of (WrongMinute i) = RecordLayer
layer_of (WrongArgument i) = DayLayer
layer_of NotPosted = DayLayer

-- where the version of what was posted stands: the first byte of a record's field, the index of an argument
abbrev pub version_place : Document → ℕ
version_place Record = 6
version_place Signal = 4
version_place Watch = 3

-- the first byte of a record's field, else the index of an argument, a name, a sample or a minute, counted from 0
abbrev pub place_of : Refusal → ℕ
place_of MemberCount = 0
place_of SiteCount = 32
place_of (SiteWithoutMember i) = i
place_of (BadName i) = i
place_of RecordLength = 0
place_of UnknownKind = 0
place_of UnknownDirection = 3
place_of WrongHour = 4
place_of WrongVersion = 6
place_of MalformedName = 9
place_of UnknownName = 9
place_of (WrongNumber i) = 33 + 6 * i
place_of (VersionNotHigher d) = version_place d
place_of RegisterFull = 0
place_of (WrongPostingArgument i) = i
place_of SignalLength = 0
place_of (WrongSample i) = i
place_of WatchLength = 0
place_of (WrongMinute i) = i
place_of (WrongArgument i) = i
place_of NotPosted = 0
