-- How what files tell goes on from call to call.
use Rattle.std.proofs.Common.{◌≡◌, ◌<◌, ℕ, Option, Some, None, Result, Ok, Err, List, [], ◌++◌, length, take, refl, sym, ap, ◌∙◌, append_assoc, append-nil, length-append, arith}
use Rattle.tb_base.specs.Outside.{FilesTold, TakesOfFile, Opens}
use Rattle.tb_base.specs.declared.fault.Fault.{Fault}
use Rattle.tb_base.specs.declared.fault.FileError.TheVariants as error
use Rattle.tb_top.specs.Told.{Gave, Ends, AskedNothing, AskedOnce, Finds}

pub AskedNothing-refl : (a : Option FilesTold) → AskedNothing a a
AskedNothing-refl None = tt
AskedNothing-refl (Some a) = (refl, refl)

pub AskedNothing-then : (a b c : Option FilesTold) → AskedNothing a b → AskedNothing b c → AskedNothing a c
AskedNothing-then None b c p q = tt
AskedNothing-then (Some a) None c p q = absurd p
AskedNothing-then (Some a) (Some b) None p q = absurd q
AskedNothing-then (Some a) (Some b) (Some c) p q = (q.0 ∙ p.0, q.1 ∙ p.1)

-- before anything was given
pub Gave-start : (a : Option FilesTold) → Gave a a []
Gave-start None = tt
Gave-start (Some a) = (refl, refl, refl)

-- one more piece
pub Gave-then : (a b c : Option FilesTold) (x buffer : List ℕ) (count : ℕ) → Gave a b x → TakesOfFile b c buffer (Ok count) → Gave a c (x ++ take count buffer)
Gave-then None b c x buffer count p q = tt
Gave-then (Some a) None c x buffer count p q = absurd p
Gave-then (Some a) (Some b) None x buffer count p q = absurd q
Gave-then (Some a) (Some b) (Some c) x buffer count p q =
    (p.0 ∙ ap (λ z. x ++ z) q.0.0 ∙ sym (append_assoc x (take count buffer) c.left), q.1 ∙ p.1, q.2 ∙ p.2)

-- a piece of no bytes is the end
pub Ends-taken : (a b : Option FilesTold) (buffer : List ℕ) (count : ℕ) → TakesOfFile a b buffer (Ok count) → count ≡ 0 → Ends a b
Ends-taken None b buffer count p e = tt
Ends-taken (Some a) None buffer count p e = absurd p
Ends-taken (Some a) (Some b) buffer count p e =
    let old : a.left ≡ [] = p.0.1 e in
    let given : a.left ≡ take 0 buffer ++ b.left = p.0.0 ∙ ap (λ n. take n buffer ++ b.left) e in
    sym given ∙ old

-- the end of what has given something
pub Ends-then : (a b c : Option FilesTold) (x : List ℕ) → Gave a b x → Ends b c → Ends a c
Ends-then None b c x p q = tt
Ends-then (Some a) None c x p q = absurd p
Ends-then (Some a) (Some b) None x p q = absurd q
Ends-then (Some a) (Some b) (Some c) x p q = q

-- a piece, or a fault, leaves the files and what was asked for
pub AskedNothing-taken : (a b : Option FilesTold) (buffer : List ℕ) (r : Result ℕ Fault) → TakesOfFile a b buffer r → AskedNothing a b
AskedNothing-taken None b buffer r p = tt
AskedNothing-taken (Some a) None buffer r p = absurd p
AskedNothing-taken (Some a) (Some b) buffer r p = (p.1, p.2)

-- an opened file that is read to its end is the source under its name
pub Finds-read : {A : Type 0} (a b c : Option FilesTold) (name source : List ℕ) (x : A) → Opens a b name (Ok x) → Gave b c source → Ends b c → Finds a name source
Finds-read None b c name source x o g e = tt
Finds-read (Some a) None c name source x o g e = absurd o
Finds-read (Some a) (Some b) None name source x o g e = absurd g
Finds-read (Some a) (Some b) (Some c) name source x o g e =
    o.0 ∙ ap Some (g.0 ∙ ap (λ z. source ++ z) e ∙ append-nil source)

-- an opened file that gave too much is a source that is too long
pub TooLong-read : {A : Type 0} (a b c : Option FilesTold) (name front : List ℕ) (size : ℕ) (x : A) → Opens a b name (Ok x) → Gave b c front → size < length front → (source : List ℕ) × Finds a name source × (size < length source)
TooLong-read None b c name front size x o g h = (front, tt, h)
TooLong-read (Some a) None c name front size x o g h = absurd o
TooLong-read (Some a) (Some b) None name front size x o g h = absurd g
TooLong-read (Some a) (Some b) (Some c) name front size x o g h =
    let more : size < length (front ++ c.left) = rw length-append (omega arith) in
    (front ++ c.left, o.0 ∙ ap Some g.0, more)

pub AskedOnce-read : {A : Type 0} (a b c : Option FilesTold) (name : List ℕ) (x : A) → Opens a b name (Ok x) → AskedNothing b c → AskedOnce a c name
AskedOnce-read None b c name x o n = tt
AskedOnce-read (Some a) None c name x o n = absurd o
AskedOnce-read (Some a) (Some b) None name x o n = absurd n
AskedOnce-read (Some a) (Some b) (Some c) name x o n = (n.0 ∙ o.1, n.1 ∙ o.2)

pub AskedOnce-fault : (a b : Option FilesTold) (name : List ℕ) → Opens {A = Unit {0}} a b name (Err error.Fault) → AskedOnce a b name
AskedOnce-fault None b name o = tt
AskedOnce-fault (Some a) None name o = absurd o
AskedOnce-fault (Some a) (Some b) name o = o

pub AskedNothing-memory : (a b : Option FilesTold) (name : List ℕ) → Opens {A = Unit {0}} a b name (Err error.Memory) → AskedNothing a b
AskedNothing-memory None b name o = tt
AskedNothing-memory (Some a) None name o = absurd o
AskedNothing-memory (Some a) (Some b) name o = o

pub ruleset telling_laws = (AskedNothing-refl, AskedNothing-then, AskedNothing-taken, Gave-start, Gave-then, Ends-taken, Ends-then, Finds-read, TooLong-read, AskedOnce-read, AskedOnce-fault, AskedNothing-memory)
