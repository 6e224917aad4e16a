-- Where a file that a journal names lies. Assumes nothing.
use Rattle.std.specs.Prelude.{ℕ, ◌-◌, Bool, false, cond, not, List, [], ◌∷◌, ◌++◌, length, take, ◌==◌}
use Rattle.std.specs.List.{suffix_len}

abbrev pub is_slash : ℕ → Bool
is_slash b = b == 47

-- a path without what follows its last slash
abbrev pub folder_of : List ℕ → List ℕ
folder_of path = take (length path - suffix_len (λ b. not (is_slash b)) path) path

-- begins with a slash
abbrev pub absolute : List ℕ → Bool
absolute [] = false
absolute (b ∷ bs) = is_slash b

-- a relative path is taken from the folder of the journal
abbrev pub path_from : List ℕ → List ℕ → List ℕ
path_from journal file = cond (absolute file) file (folder_of journal ++ file)
