-- The codes of refusals as a report prints them, with the words behind each.
use Rattle.std.specs.Prelude.{ℕ, List, codes}
use Rattle.tb_perm.specs.declared.code.Code.{Code}
use Rattle.tb_perm.specs.declared.code.Code.TheVariants.{NotUtf8, UnknownCharacter, BadLiteral, UnfinishedComment, BadNumber, UnknownSuffix, UnexpectedToken, TooDeeplyNested, NoMainFunction, UnknownName, NameGivenTwice, TypeHoldsItself, TooManyParts, WrongType, NotAPlace, NotMutable, NeedsUnsafe, WrongNumber, NoSuchFieldOrCall, LiteralOutOfRange, OperatorNotForType, CastNotAllowed, TypeNotKnown, OutsideALoop, BadFormatText, TypeNotAllowedHere, TypeTooLarge, NotInitialised, UsedAfterMove, MoveOutOfAPart, WrongTypeArguments, TooManyInstances, TypeArgumentTooLarge, TooManyLocals, SourceTooLong, NotBuilt}

-- a code's name and its words
pub record Printed : Type 0 where
  pub name : List ℕ
  pub text : List ℕ

abbrev pub printed_pair : List ℕ → List ℕ → Printed
printed_pair name text = record { name = name; text = text }

abbrev pub printed : Code → Printed
printed NotUtf8 = printed_pair (codes "L1") (codes "not UTF-8")
printed UnknownCharacter = printed_pair (codes "L2") (codes "unknown character")
printed BadLiteral = printed_pair (codes "L3") (codes "bad literal")
printed UnfinishedComment = printed_pair (codes "L4") (codes "unfinished comment")
printed BadNumber = printed_pair (codes "L5") (codes "bad number")
printed UnknownSuffix = printed_pair (codes "L6") (codes "unknown suffix")
printed UnexpectedToken = printed_pair (codes "P1") (codes "unexpected token")
printed TooDeeplyNested = printed_pair (codes "P2") (codes "nested too deeply")
printed NoMainFunction = printed_pair (codes "N1") (codes "no main function")
printed UnknownName = printed_pair (codes "N2") (codes "unknown name")
printed NameGivenTwice = printed_pair (codes "N3") (codes "name given twice")
printed TypeHoldsItself = printed_pair (codes "N4") (codes "type holds itself")
printed TooManyParts = printed_pair (codes "N5") (codes "too many parts")
printed WrongType = printed_pair (codes "T1") (codes "wrong type")
printed NotAPlace = printed_pair (codes "T2") (codes "not a place")
printed NotMutable = printed_pair (codes "T3") (codes "not mutable")
printed NeedsUnsafe = printed_pair (codes "T4") (codes "needs unsafe")
printed WrongNumber = printed_pair (codes "T5") (codes "wrong number")
printed NoSuchFieldOrCall = printed_pair (codes "T6") (codes "no such field or call")
printed LiteralOutOfRange = printed_pair (codes "T7") (codes "literal out of range")
printed OperatorNotForType = printed_pair (codes "T8") (codes "operator not for this type")
printed CastNotAllowed = printed_pair (codes "T9") (codes "cast not allowed")
printed TypeNotKnown = printed_pair (codes "T10") (codes "type not known")
printed OutsideALoop = printed_pair (codes "T11") (codes "outside a loop")
printed BadFormatText = printed_pair (codes "T12") (codes "bad format text")
printed TypeNotAllowedHere = printed_pair (codes "T13") (codes "type not allowed here")
printed TypeTooLarge = printed_pair (codes "T14") (codes "type too large")
printed NotInitialised = printed_pair (codes "M1") (codes "not initialised")
printed UsedAfterMove = printed_pair (codes "M2") (codes "used after move")
printed MoveOutOfAPart = printed_pair (codes "M3") (codes "move out of a part")
printed WrongTypeArguments = printed_pair (codes "G1") (codes "wrong type arguments")
printed TooManyInstances = printed_pair (codes "G2") (codes "too many instances")
printed TypeArgumentTooLarge = printed_pair (codes "G3") (codes "type argument too large")
printed TooManyLocals = printed_pair (codes "S1") (codes "too many locals")
printed SourceTooLong = printed_pair (codes "S2") (codes "source too long")
printed NotBuilt = printed_pair (codes "U1") (codes "not built yet")
