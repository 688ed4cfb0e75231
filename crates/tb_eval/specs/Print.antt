-- What a print puts.
use Rattle.std.specs.Prelude.{◌≡◌, ℕ, ℤ, Bool, true, false, ◌==◌, ◌&&◌, List, [], ◌∷◌, ◌++◌, Result, Ok, Err, Vec, ⊤, if◌then◌else◌}
use Rattle.std.specs.declared.alloc.Global.{Global}
use Rattle.std.specs.Fmt.{signed_decimal}
use Rattle.tb_mir.specs.declared.operand.Operand.{Operand}
use Rattle.tb_eval.specs.Value.{int_operand}
use Rattle.tb_eval.specs.declared.value.Slot.{Slot}
use Rattle.tb_heap.specs.declared.stop.Stop.{Stop}
use Rattle.tb_eval.specs.declared.print.PrintError.{PrintError}
use Rattle.tb_eval.specs.declared.print.PrintError.TheVariants.{Stop as Stopped, Memory}

-- one more integer in front
abbrev pub with_first : Result ℤ Stop → Result (List ℤ) Stop → Result (List ℤ) Stop
with_first (Ok int) (Ok ints) = Ok (int ∷ ints)
with_first (Ok int) (Err stop) = Err stop
with_first (Err stop) ints = Err stop

-- the integers that the operands are
abbrev pub ints_of : List Slot → List Operand → Result (List ℤ) Stop
ints_of locals [] = Ok []
ints_of locals (operand ∷ operands) = with_first (int_operand locals operand) (ints_of locals operands)

-- the next integer in decimal; nothing where none is left
abbrev pub next_shown : List ℤ → List ℕ
next_shown [] = []
next_shown (int ∷ ints) = signed_decimal int

abbrev pub after_next : List ℤ → List ℤ
after_next [] = []
after_next (int ∷ ints) = ints

-- the text begins with these two bytes
abbrev pub begins : ℕ → ℕ → List ℕ → Bool
begins first second [] = false
begins first second (byte ∷ []) = false
begins first second (byte ∷ next ∷ text) = byte == first && next == second

-- A text as it is written, where `\n` stands for a line feed, `{}` for the next integer, and each other byte for
-- itself.
unfoldable pub put_text : List ℕ → List ℤ → List ℕ
put_text [] ints = []
put_text (byte ∷ []) ints = byte ∷ []
put_text (byte ∷ next ∷ text) ints =
    if byte == 92 && next == 110 then 10 ∷ put_text text ints
    else (if byte == 123 && next == 125 then next_shown ints ++ put_text text (after_next ints)
    else byte ∷ put_text (next ∷ text) ints)

-- with a line feed at the end, or without
abbrev pub ended : Bool → List ℕ → List ℕ
ended true bytes = bytes ++ 10 ∷ []
ended false bytes = bytes

-- what a print puts of these integers
abbrev pub printed_ints : Bool → List ℕ → Result (List ℤ) Stop → Result (List ℕ) Stop
printed_ints newline text (Ok ints) = Ok (ended newline (put_text text ints))
printed_ints newline text (Err stop) = Err stop

-- what a print of these operands puts
abbrev pub printed : Bool → List ℕ → List Slot → List Operand → Result (List ℕ) Stop
printed newline text locals operands = printed_ints newline text (ints_of locals operands)

-- the print was put together so, or an operand of it stops the run, or memory ran out
abbrev pub PrintsAs : Result (List ℕ) Stop → Result (Vec ℕ Global) PrintError → Type 0
PrintsAs (Ok text) (Ok bytes) = bytes.items ≡ text
PrintsAs (Err stop) (Ok bytes) = ⊥
PrintsAs (Ok text) (Err (Stopped stop)) = ⊥
PrintsAs (Err stop) (Err (Stopped other)) = other ≡ stop
PrintsAs text (Err Memory) = ⊤

-- the integers were found, or an operand stops the run, or memory ran out
abbrev pub IntsAre : Result (List ℤ) Stop → Result (Vec ℤ Global) PrintError → Type 0
IntsAre (Ok ints) (Ok found) = found.items ≡ ints
IntsAre (Err stop) (Ok found) = ⊥
IntsAre (Ok ints) (Err (Stopped stop)) = ⊥
IntsAre (Err stop) (Err (Stopped other)) = other ≡ stop
IntsAre ints (Err Memory) = ⊤
