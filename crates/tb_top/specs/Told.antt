-- What files tell, while one of them is opened and read. Nothing is said of files that do not tell.
use Rattle.std.specs.Prelude.{◌≡◌, ℕ, List, [], ◌∷◌, ◌++◌, Option, None, Some, ⊤}
use Rattle.tb_base.specs.Outside.{FilesTold, bytes_under}

-- the open file gave these bytes and has the rest left, and nothing else has changed
abbrev pub Gave : Option FilesTold → Option FilesTold → List ℕ → Type 0
Gave None new bytes = ⊤
Gave (Some old) None bytes = ⊥
Gave (Some old) (Some new) bytes = (old.left ≡ bytes ++ new.left) × (new.files ≡ old.files) × (new.asked ≡ old.asked)

-- nothing is left of the open file
abbrev pub Ends : Option FilesTold → Option FilesTold → Type 0
Ends None new = ⊤
Ends (Some old) None = ⊥
Ends (Some old) (Some new) = new.left ≡ []

-- the files are as they were, and `open` was asked for nothing
abbrev pub AskedNothing : Option FilesTold → Option FilesTold → Type 0
AskedNothing None new = ⊤
AskedNothing (Some old) None = ⊥
AskedNothing (Some old) (Some new) = (new.files ≡ old.files) × (new.asked ≡ old.asked)

-- the files are as they were, and `open` was asked for this name, once
abbrev pub AskedOnce : Option FilesTold → Option FilesTold → List ℕ → Type 0
AskedOnce None new name = ⊤
AskedOnce (Some old) None name = ⊥
AskedOnce (Some old) (Some new) name = (new.files ≡ old.files) × (new.asked ≡ old.asked ++ name ∷ [])

-- these are the bytes of the first file of this name
abbrev pub Finds : Option FilesTold → List ℕ → List ℕ → Type 0
Finds None name source = ⊤
Finds (Some told) name source = bytes_under told.files name ≡ Some source
