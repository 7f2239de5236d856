-- The numbers and the layers of a load's refusals.
use Rattle.std.specs.Prelude.{ℕ, List, ◌++◌, codes, decimal}
use Rattle.board.specs.Refusals.{number}
use Rattle.file.specs.declared.refusal.Layer.{Layer}
use Rattle.file.specs.declared.refusal.Layer.TheVariants as layer
use Rattle.file.specs.declared.refusal.LoadFault.{LoadFault}
use Rattle.file.specs.declared.refusal.FileRefusal.{FileRefusal}
use Rattle.file.specs.declared.refusal.FileRefusal.TheVariants.{CutShort, WrongLetter, NotZero, WrongTrust, WrongSection, Board}

-- the number of each layer
abbrev pub layer_number : Layer → ℕ
layer_number layer.Bytes = 1
layer_number layer.File = 2
layer_number layer.Board = 3

-- the number of each refusal; a board's has its own
abbrev pub file_number : FileRefusal → ℕ
file_number CutShort = 20
file_number WrongLetter = 21
file_number NotZero = 22
file_number WrongTrust = 23
file_number WrongSection = 24
file_number (Board e) = number e

-- the layer of each refusal
abbrev pub layer_of : FileRefusal → Layer
layer_of CutShort = layer.Bytes
layer_of (Board e) = layer.Board
layer_of e = layer.File

-- how a refusal is told: `bad`, number and layer
abbrev pub file_refusal_text : FileRefusal → List ℕ
file_refusal_text e = codes "bad " ++ (decimal (file_number e) ++ (codes " " ++ decimal (layer_number (layer_of e))))

-- how a declined load is told: its refusal, and the place
abbrev pub load_fault_text : LoadFault → List ℕ
load_fault_text e = file_refusal_text e.refusal ++ (codes " " ++ decimal e.place)
