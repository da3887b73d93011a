-- What each outcome prints, and its exit status: this project's own rule.
use Rattle.std.specs.Prelude.{ℕ, List, [], ◌++◌, codes, decimal}
use Rattle.hf_base.specs.declared.four.FourCc.{FourCc}
use Rattle.hf_base.specs.declared.fault.ReadRefusal.{ReadRefusal}
use Rattle.hf_base.specs.declared.fault.ReadRefusal.TheVariants.{Short, BadSize, OpenSize, TooManyBoxes, NoFtyp, NotMif1, Movie, NoMeta, Double, ProtectionBox, Xml, Missing, BadRecord, BadVersion, NotPicture, ZeroId, Protected, DoubleItem, NoPrimary, BadWidth, TooLarge, DoubleLocation, DanglingNeed, DoubleAssoc, BadProperty, DoubleGroup, External, BadMethod, ZeroLength, NoIdat, BadIndex, LocCycle, OutOfFile, OutOfIdat, TooScattered, OutOfItem, TooManyBytes, BadDerived, DeriveCycle, TooManyItems, TooManyLinks, MetaTooLong}
use Rattle.hf_text.specs.Texts.{type_text}
use Rattle.hf_text.specs.declared.outcome.Outcome.{Outcome}
use Rattle.hf_text.specs.declared.outcome.Outcome.TheVariants.{Done, Usage, Unfit, Refused, NoSuchItem, TooLong, ReadFault, WriteFault, NoMemory}
use Rattle.hf_store.specs.declared.reason.Reason.{Reason}
use Rattle.hf_store.specs.declared.reason.Reason.TheVariants.{NoItem, IsPrimary, Needed, NotImage, IsHidden, IsMinor, DonorDerived, NoSize, OutsidePicture, BadTurn, BadAxis, NoProperty, IsEssential, PropsFull, KindsFull, ItemsFull, IdsFull, BodyFull, MetaFull}

-- a number, after a space
abbrev pub number_field : ℕ → List ℕ
number_field n = codes " " ++ decimal n

-- a type, after a space
abbrev pub type_field : FourCc → List ℕ
type_field kind = codes " " ++ type_text kind

-- the name of a refusal, then its fields in order
abbrev pub refusal_text : ReadRefusal → List ℕ
refusal_text (Short at) = codes "Short" ++ number_field at
refusal_text (BadSize at) = codes "BadSize" ++ number_field at
refusal_text (OpenSize at) = codes "OpenSize" ++ number_field at
refusal_text (TooManyBoxes at) = codes "TooManyBoxes" ++ number_field at
refusal_text NoFtyp = codes "NoFtyp"
refusal_text NotMif1 = codes "NotMif1"
refusal_text (Movie at) = codes "Movie" ++ number_field at
refusal_text NoMeta = codes "NoMeta"
refusal_text (Double kind at) = codes "Double" ++ type_field kind ++ number_field at
refusal_text (ProtectionBox at) = codes "ProtectionBox" ++ number_field at
refusal_text (Xml at) = codes "Xml" ++ number_field at
refusal_text (Missing kind) = codes "Missing" ++ type_field kind
refusal_text (BadRecord kind at) = codes "BadRecord" ++ type_field kind ++ number_field at
refusal_text (BadVersion kind at) = codes "BadVersion" ++ type_field kind ++ number_field at
refusal_text NotPicture = codes "NotPicture"
refusal_text (ZeroId at) = codes "ZeroId" ++ number_field at
refusal_text (Protected id) = codes "Protected" ++ number_field id
refusal_text (DoubleItem id) = codes "DoubleItem" ++ number_field id
refusal_text (NoPrimary id) = codes "NoPrimary" ++ number_field id
refusal_text (BadWidth at) = codes "BadWidth" ++ number_field at
refusal_text (TooLarge kind at) = codes "TooLarge" ++ type_field kind ++ number_field at
refusal_text (DoubleLocation id) = codes "DoubleLocation" ++ number_field id
refusal_text (DanglingNeed id) = codes "DanglingNeed" ++ number_field id
refusal_text (DoubleAssoc id) = codes "DoubleAssoc" ++ number_field id
refusal_text (BadProperty id) = codes "BadProperty" ++ number_field id
refusal_text (DoubleGroup id) = codes "DoubleGroup" ++ number_field id
refusal_text (External id) = codes "External" ++ number_field id
refusal_text (BadMethod id) = codes "BadMethod" ++ number_field id
refusal_text (ZeroLength id) = codes "ZeroLength" ++ number_field id
refusal_text (NoIdat id) = codes "NoIdat" ++ number_field id
refusal_text (BadIndex id) = codes "BadIndex" ++ number_field id
refusal_text (LocCycle id) = codes "LocCycle" ++ number_field id
refusal_text (OutOfFile id) = codes "OutOfFile" ++ number_field id
refusal_text (OutOfIdat id) = codes "OutOfIdat" ++ number_field id
refusal_text (TooScattered count) = codes "TooScattered" ++ number_field count
refusal_text (OutOfItem id) = codes "OutOfItem" ++ number_field id
refusal_text (TooManyBytes sum) = codes "TooManyBytes" ++ number_field sum
refusal_text (BadDerived id) = codes "BadDerived" ++ number_field id
refusal_text (DeriveCycle id) = codes "DeriveCycle" ++ number_field id
refusal_text (TooManyItems count) = codes "TooManyItems" ++ number_field count
refusal_text (TooManyLinks id) = codes "TooManyLinks" ++ number_field id
refusal_text (MetaTooLong size) = codes "MetaTooLong" ++ number_field size

-- the name of a reason against an edit, then its field
abbrev pub reason_text : Reason → List ℕ
reason_text NoItem = codes "NoItem"
reason_text IsPrimary = codes "IsPrimary"
reason_text (Needed by) = codes "Needed" ++ number_field by
reason_text NotImage = codes "NotImage"
reason_text IsHidden = codes "IsHidden"
reason_text IsMinor = codes "IsMinor"
reason_text DonorDerived = codes "DonorDerived"
reason_text NoSize = codes "NoSize"
reason_text OutsidePicture = codes "OutsidePicture"
reason_text BadTurn = codes "BadTurn"
reason_text BadAxis = codes "BadAxis"
reason_text NoProperty = codes "NoProperty"
reason_text IsEssential = codes "IsEssential"
reason_text PropsFull = codes "PropsFull"
reason_text KindsFull = codes "KindsFull"
reason_text ItemsFull = codes "ItemsFull"
reason_text IdsFull = codes "IdsFull"
reason_text BodyFull = codes "BodyFull"
reason_text MetaFull = codes "MetaFull"

-- the line of an outcome on standard error; none for Done
abbrev pub line_text : Outcome → List ℕ
line_text Done = []
line_text (Usage at) = codes "heif: no command at word" ++ number_field at ++ codes "\n"
line_text (Unfit source why) = codes "heif: source" ++ number_field source ++ codes ": " ++ refusal_text why ++ codes "\n"
line_text (Refused edit why) = codes "heif: edit" ++ number_field edit ++ codes ": " ++ reason_text why ++ codes "\n"
line_text (NoSuchItem id) = codes "heif: no item" ++ number_field id ++ codes "\n"
line_text (TooLong source) = codes "heif: source" ++ number_field source ++ codes " is too long\n"
line_text ReadFault = codes "heif: reading failed\n"
line_text WriteFault = codes "heif: writing failed\n"
line_text NoMemory = codes "heif: no memory\n"

abbrev pub status_of : Outcome → ℕ
status_of Done = 0
status_of (Usage at) = 2
status_of (Unfit source why) = 3
status_of (Refused edit why) = 4
status_of (NoSuchItem id) = 5
status_of (TooLong source) = 6
status_of ReadFault = 7
status_of WriteFault = 8
status_of NoMemory = 9
