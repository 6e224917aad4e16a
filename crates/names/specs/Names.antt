-- The names of a roster, and the text of a record's name field. Assumes nothing.
use Rattle.std.specs.Prelude.{ℕ, zero, suc, ◌-◌, Bool, true, false, cond, not, ◌&&◌, ◌||◌, List, [], ◌∷◌, ◌++◌, length, take, drop, Some, None, Ok, Err, codes, Option, Result, ◌==◌, nat_eq, nat_le, slice_index}
use Rattle.std.specs.Option.{option_map}
use Rattle.std.specs.List.{list_all, position_or_len, before_first, suffix_len}
use Rattle.std.specs.Str.{bytes_eq}
use Rattle.names.specs.declared.Malformed.{Malformed}
use Rattle.names.specs.declared.Malformed.TheVariants.{BareDelimiter}
use Rattle.names.specs.declared.Piece.{Piece}
use Rattle.names.specs.declared.Piece.TheVariants.{Plain, Escape}
use Rattle.names.specs.declared.Entity.{Entity}
use Rattle.names.specs.declared.Entity.TheVariants.{Amp, Lt, Gt, Apos, Quot}

abbrev pub space : ℕ
space = 32

abbrev pub ampersand : ℕ
ampersand = 38

abbrev pub less_than : ℕ
less_than = 60

abbrev pub printable : ℕ → Bool
printable b = nat_le 32 b && nat_le b 126

-- a name of a roster: 1 to 24 printable bytes, with no space at either end
abbrev pub well_formed : List ℕ → Bool
well_formed name =
    nat_le 1 (length name) && nat_le (length name) 24 && list_all printable name
    && not (slice_index name 0 == space) && not (slice_index name (length name - 1) == space)

-- the byte that an entity stands for
abbrev pub byte_of : Entity → ℕ
byte_of Amp = ampersand
byte_of Lt = less_than
byte_of Gt = 62
byte_of Apos = 39
byte_of Quot = 34

-- how many bytes an escape has after its ampersand
abbrev pub size : Entity → ℕ
size Amp = 4
size Lt = 3
size Gt = 3
size Apos = 5
size Quot = 5

abbrev pub begins : List ℕ → List ℕ → Bool
begins [] xs = true
begins (p ∷ ps) [] = false
begins (p ∷ ps) (x ∷ xs) = cond (x == p) (begins ps xs) false

-- the entity whose escape goes on so after its ampersand
abbrev pub entity : List ℕ → Option Entity
entity xs =
    cond (begins (codes "amp;") xs) (Some Amp)
    (cond (begins (codes "lt;") xs) (Some Lt)
    (cond (begins (codes "gt;") xs) (Some Gt)
    (cond (begins (codes "apos;") xs) (Some Apos)
    (cond (begins (codes "quot;") xs) (Some Quot) None))))

-- the bytes that a piece stands for
abbrev pub bytes_of : Piece → List ℕ
bytes_of (Plain s) = s.now
bytes_of (Escape e) = byte_of e ∷ []

-- xs in front of a text, where there is one
abbrev pub prefixed : List ℕ → Option (List ℕ) → Option (List ℕ)
prefixed xs None = None
prefixed xs (Some ys) = Some (xs ++ ys)

-- what the bytes after the first n read as, each escape read once: a bare `<` or `&` is malformed
abbrev pub decoded_after : ℕ → List ℕ → Option (List ℕ)
decoded_after n [] = Some []
decoded_after (suc n) (x ∷ xs) = decoded_after n xs
decoded_after zero (x ∷ xs) =
    cond (x == less_than) None
    (cond (x == ampersand) (elim (entity xs) [ None ↦ None | Some e ↦ prefixed (byte_of e ∷ []) (decoded_after (size e) xs) ])
    (prefixed (x ∷ []) (decoded_after zero xs)))

abbrev pub decoded : List ℕ → Option (List ℕ)
decoded xs = decoded_after 0 xs

-- a byte that does not stand for itself
abbrev pub delimiter : ℕ → Bool
delimiter b = b == ampersand || b == less_than

-- what the first piece stands for, and the bytes after it; none where its delimiter is bare
abbrev pub first_piece : List ℕ → Option (List ℕ × List ℕ)
first_piece [] = Some ([], [])
first_piece (x ∷ xs) =
    cond (x == less_than) None
    (cond (x == ampersand) (option_map (λ e. (byte_of e ∷ [], drop (size e) xs)) (entity xs))
    (Some (before_first delimiter (x ∷ xs), drop (position_or_len delimiter (x ∷ xs)) (x ∷ xs))))

-- a field without the spaces at its end
abbrev pub trimmed_end : List ℕ → List ℕ
trimmed_end xs = take (length xs - suffix_len (λ b. nat_eq b space) xs) xs

-- the text that a name field reads as; none where it is malformed
abbrev pub text : List ℕ → Option (List ℕ)
text field = decoded (trimmed_end field)

-- what is said of a malformed name
abbrev pub malformed_text : Malformed → List ℕ
malformed_text BareDelimiter = codes "the name has a bare & or <"

-- whether a text is this name
abbrev pub compared : List ℕ → Option (List ℕ) → Result Bool Malformed
compared name None = Err BareDelimiter
compared name (Some read) = Ok (bytes_eq read name)

-- whether a text is empty
abbrev pub blank : Option (List ℕ) → Result Bool Malformed
blank None = Err BareDelimiter
blank (Some read) = Ok (length read == 0)
