-- W-211: what is left of a message once its sequence numbers and flags are hidden. Two messages "differ only in" these if this is the same of both.
use Rattle.std.specs.Prelude.{map}
use Rattle.label.specs.declared.Structure.{Structure}
use Rattle.label.specs.declared.Entry.{Entry}
use Rattle.label.specs.declared.Message.{Message}

-- an 001 with sequence number and flags 0, and any other structure as it is
abbrev pub masked_structure : Structure → Structure
masked_structure Structure.Empty = Structure.Empty
masked_structure (Structure.Donation d f) =
    Structure.Donation record { sequence = 0; facility = d.facility; first = d.first; year = d.year } record { number = 0 }
masked_structure (Structure.Groups g) = Structure.Groups g
masked_structure (Structure.Product p) = Structure.Product p
masked_structure (Structure.Expiry d) = Structure.Expiry d
masked_structure (Structure.ExpiryTime d t) = Structure.ExpiryTime d t
masked_structure (Structure.Collection d) = Structure.Collection d
masked_structure (Structure.CollectionTime d t) = Structure.CollectionTime d t
masked_structure (Structure.Production d) = Structure.Production d
masked_structure (Structure.ProductionTime d t) = Structure.ProductionTime d t
masked_structure (Structure.Testing t) = Structure.Testing t
masked_structure (Structure.Antigens a) = Structure.Antigens a
masked_structure (Structure.Lot l) = Structure.Lot l
masked_structure (Structure.Flexible f d t) = Structure.Flexible f d t
masked_structure (Structure.Antigens2001 a) = Structure.Antigens2001 a

-- place and length stay
abbrev pub masked_entry : Entry → Entry
masked_entry e = record { structure = masked_structure e.structure; place = e.place; length = e.length }

-- and so do form, bbb and count
abbrev pub masked : Message → Message
masked m = record { entries = map masked_entry m.entries; count = m.count; bbb = m.bbb; form = m.form }
