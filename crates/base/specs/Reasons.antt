-- What each reason to refuse says: its number and its phase. Contracts speak of a refusal through these two.
use Rattle.std.specs.Prelude.{ℕ, List, Some, None, codes}
use Rattle.base.specs.declared.Place.{Place}
use Rattle.base.specs.declared.Reason.{Reason}
use Rattle.base.specs.declared.Reason.TheVariants.{ScriptTooLong, NoWord, NumberTooLarge, NameTooLong, Unexpected, TooDeep, DeclaredBefore, Undeclared, RangeFalls, TableSize, SameName, TooManyNames, TooManyPoints, NotThere, NotSettled, BudgetTooLarge, ListTooShort, BufferTooShort, OutOfMemory}
use Rattle.base.specs.declared.Phase.{Phase}
use Rattle.base.specs.declared.Phase.TheVariants.{Words, Sentence, Names, Graph, Solving, Output, Memory}
use Rattle.base.specs.declared.Refusal.{Refusal}

abbrev pub number_of : Reason → ℕ
number_of ScriptTooLong = 1
number_of NoWord = 2
number_of NumberTooLarge = 3
number_of NameTooLong = 4
number_of Unexpected = 5
number_of TooDeep = 6
number_of DeclaredBefore = 7
number_of Undeclared = 8
number_of RangeFalls = 9
number_of TableSize = 10
number_of SameName = 11
number_of TooManyNames = 12
number_of TooManyPoints = 13
number_of NotThere = 30
number_of NotSettled = 31
number_of BudgetTooLarge = 32
number_of ListTooShort = 33
number_of BufferTooShort = 40
number_of OutOfMemory = 90

abbrev pub phase_of : Reason → Phase
phase_of ScriptTooLong = Words
phase_of NoWord = Words
phase_of NumberTooLarge = Words
phase_of NameTooLong = Words
phase_of Unexpected = Sentence
phase_of TooDeep = Sentence
phase_of DeclaredBefore = Names
phase_of Undeclared = Names
phase_of RangeFalls = Names
phase_of TableSize = Names
phase_of SameName = Names
phase_of TooManyNames = Names
phase_of TooManyPoints = Graph
phase_of NotThere = Solving
phase_of NotSettled = Solving
phase_of BudgetTooLarge = Solving
phase_of ListTooShort = Solving
phase_of BufferTooShort = Output
phase_of OutOfMemory = Memory

-- the word that is printed for a phase
abbrev pub text_of : Phase → List ℕ
text_of Words = codes "words"
text_of Sentence = codes "sentence"
text_of Names = codes "names"
text_of Graph = codes "graph"
text_of Solving = codes "solving"
text_of Output = codes "output"
text_of Memory = codes "memory"

-- a refusal at a place
abbrev pub located : Reason → Place → Refusal
located reason place = record { reason = reason; place = Some place }

-- a refusal that is about no place of a script
abbrev pub nowhere : Reason → Refusal
nowhere reason = record { reason = reason; place = None }

-- want of memory has no place
abbrev pub no_memory : Refusal
no_memory = record { reason = OutOfMemory; place = None }
