-- The locals of a function are named by ways. A rule of the lowering brings in locals of its own, and those of its parts, in
-- the order in which its lines first mention them; a way says through which part to go at each rule, and at its end which
-- local of the rule it is. In this order all locals of a function are numbered.
use Rattle.std.specs.Prelude.{ℕ, zero, suc, ◌+◌, List, [], ◌∷◌, ◌++◌, map}
use Rattle.tb_mir.specs.declared.mir.Local.{Local}

-- what a rule brings in: one after the other, locals of its own and parts
pub data Shape : Type 0 where
  End : Shape
  Own : Local → Shape → Shape
  Part : Shape → Shape → Shape

-- how many locals
abbrev pub count : Shape → ℕ
count End = 0
count (Own local rest) = 1 + count rest
count (Part part rest) = count part + count rest

-- all locals, in order
abbrev pub brings : Shape → List Local
brings End = []
brings (Own local rest) = local ∷ brings rest
brings (Part part rest) = brings part ++ brings rest

-- which number each way has
abbrev pub Naming : Type 0
Naming = List ℕ → ℕ

-- the names of a part
abbrev pub under : Naming → ℕ → Naming
under at part = λ way. at (part ∷ way)

-- a local of the rule itself
abbrev pub own : Naming → ℕ → ℕ
own at place = at (place ∷ [])

-- the numbers where `start` locals were brought in before
abbrev pub number : ℕ → Shape → Naming
number start End way = start
number start (Own local rest) [] = start
number start (Own local rest) (zero ∷ way) = start
number start (Own local rest) (suc place ∷ way) = number (start + 1) rest (place ∷ way)
number start (Part part rest) [] = start
number start (Part part rest) (zero ∷ way) = number start part way
number start (Part part rest) (suc place ∷ way) = number (start + count part) rest (place ∷ way)

-- the ways to all locals, in order, where the first stands at this place
abbrev pub ways_from : ℕ → Shape → List (List ℕ)
ways_from place End = []
ways_from place (Own local rest) = (place ∷ []) ∷ ways_from (suc place) rest
ways_from place (Part part rest) = map (λ way. place ∷ way) (ways_from 0 part) ++ ways_from (suc place) rest

abbrev pub ways : Shape → List (List ℕ)
ways shape = ways_from 0 shape
