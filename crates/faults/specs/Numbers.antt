-- The number, the layer and the name of each refusal.
use Rattle.std.specs.Prelude.{◌≡◌, ℕ, List, codes}
use Rattle.faults.specs.declared.refusal.Layer.{Layer}
use Rattle.faults.specs.declared.refusal.Layer.TheVariants.{File, Header, Section, Block, Call}
use Rattle.faults.specs.declared.refusal.Refusal.{Refusal}
use Rattle.faults.specs.declared.refusal.Refusal.TheVariants.{TooFewBytes, Version, ExtentTooSmall, ExtentsDisagree, Bins, Cells, Channels, SectionTooLong, BlockHeadCut, BlockDataCut, DataCut, Key, RecordShort, TextWithoutZero, TextUnfit, NoSuchCellOrRow, WrongLengthOrCount, NoSuchField, Level, LevelTooLow, SteeringField, ListOrTableTooShort, NoFile, Capacity, VersionLacksIt, NoSuchBlock, NothingToRaise, Gap, LayoutUnknown, CellCount}

-- the number of a refusal: 1 to 22 come from the input, 31 to 38 from the state
abbrev pub number_of : Refusal → ℕ
number_of TooFewBytes = 1
number_of Version = 2
number_of ExtentTooSmall = 3
number_of ExtentsDisagree = 4
number_of Bins = 5
number_of Cells = 6
number_of Channels = 7
number_of SectionTooLong = 8
number_of BlockHeadCut = 9
number_of BlockDataCut = 10
number_of DataCut = 11
number_of Key = 12
number_of RecordShort = 13
number_of TextWithoutZero = 14
number_of TextUnfit = 15
number_of NoSuchCellOrRow = 16
number_of WrongLengthOrCount = 17
number_of NoSuchField = 18
number_of Level = 19
number_of LevelTooLow = 20
number_of SteeringField = 21
number_of ListOrTableTooShort = 22
number_of NoFile = 31
number_of Capacity = 32
number_of VersionLacksIt = 33
number_of NoSuchBlock = 34
number_of NothingToRaise = 35
number_of Gap = 36
number_of LayoutUnknown = 37
number_of CellCount = 38

-- no other refusal has this one's number
abbrev pub Alone : Refusal → Type 0
Alone r = (q : Refusal) → number_of q ≡ number_of r → q ≡ r

-- the layer at which judging and the kinds of block refuse: the file by 1, 2 and 11, the header by
-- 3 to 8, the section by 9 and 10, a block by 12 to 14, and a call by all others
abbrev pub layer_of : Refusal → Layer
layer_of TooFewBytes = File
layer_of Version = File
layer_of ExtentTooSmall = Header
layer_of ExtentsDisagree = Header
layer_of Bins = Header
layer_of Cells = Header
layer_of Channels = Header
layer_of SectionTooLong = Header
layer_of BlockHeadCut = Section
layer_of BlockDataCut = Section
layer_of DataCut = File
layer_of Key = Block
layer_of RecordShort = Block
layer_of TextWithoutZero = Block
layer_of TextUnfit = Call
layer_of NoSuchCellOrRow = Call
layer_of WrongLengthOrCount = Call
layer_of NoSuchField = Call
layer_of Level = Call
layer_of LevelTooLow = Call
layer_of SteeringField = Call
layer_of ListOrTableTooShort = Call
layer_of NoFile = Call
layer_of Capacity = Call
layer_of VersionLacksIt = Call
layer_of NoSuchBlock = Call
layer_of NothingToRaise = Call
layer_of Gap = Call
layer_of LayoutUnknown = Call
layer_of CellCount = Call

-- the name of a refusal, as it is printed
abbrev pub name_of : Refusal → List ℕ
name_of TooFewBytes = codes "too few bytes"
name_of Version = codes "version"
name_of ExtentTooSmall = codes "extent too small"
name_of ExtentsDisagree = codes "extents disagree"
name_of Bins = codes "bins"
name_of Cells = codes "cells"
name_of Channels = codes "channels"
name_of SectionTooLong = codes "section too long"
name_of BlockHeadCut = codes "block head cut"
name_of BlockDataCut = codes "block data cut"
name_of DataCut = codes "data cut"
name_of Key = codes "key"
name_of RecordShort = codes "record short"
name_of TextWithoutZero = codes "text without zero"
name_of TextUnfit = codes "text unfit"
name_of NoSuchCellOrRow = codes "no such cell or row"
name_of WrongLengthOrCount = codes "wrong length or count"
name_of NoSuchField = codes "no such field"
name_of Level = codes "level"
name_of LevelTooLow = codes "level too low"
name_of SteeringField = codes "steering field"
name_of ListOrTableTooShort = codes "list or table too short"
name_of NoFile = codes "no file"
name_of Capacity = codes "capacity"
name_of VersionLacksIt = codes "version lacks it"
name_of NoSuchBlock = codes "no such block"
name_of NothingToRaise = codes "nothing to raise"
name_of Gap = codes "gap"
name_of LayoutUnknown = codes "layout unknown at this level"
name_of CellCount = codes "cell count"

-- the number of a layer
abbrev pub layer_number : Layer → ℕ
layer_number File = 1
layer_number Header = 2
layer_number Section = 3
layer_number Block = 4
layer_number Call = 5

-- the name of a layer, as it is printed
abbrev pub layer_name : Layer → List ℕ
layer_name File = codes "file"
layer_name Header = codes "header"
layer_name Section = codes "section"
layer_name Block = codes "block"
layer_name Call = codes "call"
