-- 01, "Labels to try": those marked P, and labels for the requests, as one list.
use Prim.Native.Char.{Char}
use Prim.Native.String.{String}
use Rattle.std.specs.Prelude.{List, [], ◌∷◌, length, Some, ℕ, Option}
use Rattle.demand.specs.Demand.{Answer, accepted, refused}
use Rattle.demand.specs.Numbers.{IDENTIFIER, NESTED, CHARACTER, SHORT, VALUE, TRAILING, CHECK, DAY, TIME, REPEAT}
use Rattle.text.specs.Bytes.{byte, bytes}
use Rattle.label.specs.declared.Groups.{Groups}
use Rattle.label.specs.declared.Structure.{Structure}
use Rattle.label.specs.declared.Edition.{Edition}
use Rattle.label.specs.declared.Form.{Form}
use Rattle.label.specs.declared.Message.{Message}
use Rattle.check37.specs.Check.{Checks}
use Rattle.bloodgroup.specs.Groups.{Means}
use Rattle.message.specs.Grammar.{message_of}
use Rattle.message.specs.Refusals.{RightReading}

-- what is said of a label, of a label of 2001 (W-212), of a blood group label with its meaning, and of a donation number
pub data Said : Type 0 where
  reads : (label : String) → Answer Message → Said
  older : (label : String) → Answer Message → Said
  means : (label : String) → Groups → Option (ℕ × ℕ) → Said
  checks : (number : String) → Char → Said

-- the message of a single
abbrev pub alone : Structure → Message
alone x = message_of Form.Single 0 (x ∷ [])

-- what that is by the rules
abbrev pub AsSaid : Said → Type 0
AsSaid (reads label a) = RightReading Edition.Current (bytes label) a
AsSaid (older label a) = RightReading Edition.Of2001 (bytes label) a
AsSaid (means label g at) =
    RightReading Edition.Current (bytes label) (accepted (alone (Structure.Groups g)) (length (bytes label))) × Means g.gg0 g.gg1 at
AsSaid (checks number c) = Checks (bytes number) (Some (byte c))

-- 01, "Labels to try": those marked P; then the labels that W-202, W-203 and W-204 name, and ours for these, W-208 and W-212
abbrev pub said : List Said
said =
    reads "=W00002112345600"
    (accepted (alone (Structure.Donation record { sequence = 123456; facility = 0; first = byte "W"; year = 21 } record { number = 0 })) 16)
    ∷ reads "=W00002112345600=<" (refused TRAILING 17)
    ∷ reads "=O00002112345600" (refused IDENTIFIER 1)
    -- A positive, autologous only, r 1
    ∷ means "=%6410" record { gg0 = byte "6"; gg1 = byte "4"; r = byte "1" } (Some (3, 6))
    ∷ reads "=<E0178VBb"
    (accepted (alone (Structure.Product record
    { letter = byte "E"; o0 = byte "0"; o1 = byte "1"; o2 = byte "7"; o3 = byte "8"; t = byte "V"; d = byte "B"; s = byte "b" })) 10)
    ∷ reads "=<T1234001"
    (accepted (alone (Structure.Product record
    { letter = byte "T"; o0 = byte "1"; o1 = byte "2"; o2 = byte "3"; o3 = byte "4"; t = byte "0"; d = byte "0"; s = byte "1" })) 10)
    ∷ reads "=<E0178V0a" (refused VALUE 9)
    ∷ reads "&>0203661330" (accepted (alone (Structure.ExpiryTime record { year = 2020; day = 366 } record { hour = 13; minute = 30 })) 12)
    ∷ reads "&>1003660000" (refused DAY 7)
    ∷ reads "=+17000" (refused VALUE 3)
    ∷ reads "=+02000=+" (refused NESTED 8)
    ∷ checks "W000021123456" "A"
    ∷ checks "A999921123456" "3"
    ∷ reads "=W00002112345670"
    (accepted (alone (Structure.Donation record { sequence = 123456; facility = 0; first = byte "W"; year = 21 } record { number = 70 })) 16)
    ∷ reads "=W00002112345671" (refused CHECK 15)
    ∷ reads "=W00002112345697" (refused CHECK 14)
    ∷ reads "=A99992112345896"
    (accepted (alone (Structure.Donation record { sequence = 123458; facility = 9999; first = byte "A"; year = 21 } record { number = 96 })) 16)
    ∷ reads "=A99992112345897" (refused CHECK 15)
    ∷ reads "=W0000211234568x" (refused CHECK 14)
    ∷ reads "=W00002112345671=x" (refused CHECK 15)
    ∷ reads "=W0000211234567x" (refused CHARACTER 15)
    ∷ reads "=+02000=W00002112345600=W" (refused REPEAT 24)
    ∷ reads "=+02000=W00002112345600=O" (refused IDENTIFIER 24)
    ∷ reads "=+02000=W00002112345600=+" (refused NESTED 24)
    ∷ reads "=+02000=W00002112345600=" (refused SHORT 24)
    ∷ reads "=+01000=W00002112345600=W" (refused TRAILING 23)
    ∷ reads "=+02000=W00002112345600=%5100"
    (accepted (message_of Form.Compound 0 (
    Structure.Donation record { sequence = 123456; facility = 0; first = byte "W"; year = 21 } record { number = 0 }
    ∷ Structure.Groups record { gg0 = byte "5"; gg1 = byte "1"; r = byte "0" }
    ∷ [])) 29)
    ∷ reads "=(2001202512312359"
    (accepted (alone (Structure.Flexible record { first = byte "2"; timetype = 1 } record { year = 2025; month = 12; day = 31 }
    record { hour = 23; minute = 59 })) 18)
    ∷ reads "=(1002202402290900"
    (accepted (alone (Structure.Flexible record { first = byte "1"; timetype = 2 } record { year = 2024; month = 2; day = 29 }
    record { hour = 9; minute = 0 })) 18)
    ∷ reads "=(2001202515352359" (refused DAY 11)
    ∷ reads "=(3001202512312359" (refused VALUE 2)
    ∷ reads "=(2x01202512312359" (refused CHARACTER 3)
    ∷ reads "=(1006202501081927" (refused VALUE 5)
    ∷ reads "=(1002202502290900" (refused DAY 13)
    ∷ reads "=(200129" (refused VALUE 7)
    ∷ reads "=(20012025023" (refused DAY 12)
    ∷ reads "=(2001202512312400" (refused TIME 15)
    ∷ reads "=W00002112345600=(" (refused TRAILING 17)
    ∷ reads "=>900366" (refused DAY 7)
    ∷ reads "=>021000" (refused DAY 7)
    ∷ reads "&>0213652400" (refused TIME 9)
    ∷ reads "&>0213651360" (refused TIME 10)
    ∷ reads "&>02136x1330" (refused CHARACTER 7)
    ∷ older "={880000000087000099C" (accepted (alone (Structure.Antigens2001 record { results = 8800000000870000; ii = 99 })) 21)
    ∷ older "={880000000087000099D" (refused CHECK 20)
    ∷ older "={880000000087000099c" (refused CHARACTER 20)
    ∷ older "={880000000087000099" (refused SHORT 20)
    ∷ older "={880000000087000099C=" (refused TRAILING 21)
    ∷ older "=+01000=%5100" (refused IDENTIFIER 1)
    ∷ older "=(2001202512312359" (refused IDENTIFIER 1)
    ∷ older "&)0123456789" (refused IDENTIFIER 1)
    ∷ older "=W00002112345671" (refused CHECK 15)
    ∷ reads "={880000000087000099C" (refused IDENTIFIER 1)
    ∷ []
