-- Each arm makes the value of its kind from the parts of a content that fits.
use Rattle.std.proofs.Common.{arith}
use Rattle.content_scan.specs.Laws.Digits.{decimal_sets, donation_sets, date_sets, stamp_sets, flexible_sets}
use Rattle.structure_reader.specs.Laws.Value.{digits_told, front_told}
use Rattle.structure_reader.proofs.value.value.Goals as goal

pub donation-requires : goal.donation-requires
donation-requires c = digits_told c.in-Donation.is c.requires 1 12 donation_sets (omega arith) (omega arith)

pub flags-requires : goal.flags-requires
flags-requires c = digits_told c.in-Donation.is c.requires 13 2 donation_sets (omega arith) (omega arith)

pub date-requires : goal.date-requires
date-requires c = digits_told c.in-Expiry.is c.requires 1 6 date_sets (omega arith) (omega arith)

pub date-requires-in-ExpiryTime : goal.date-requires-in-ExpiryTime
date-requires-in-ExpiryTime c = digits_told c.in-ExpiryTime.is c.requires 1 6 stamp_sets (omega arith) (omega arith)

pub time-requires : goal.time-requires
time-requires c = digits_told c.in-ExpiryTime.is c.requires 7 4 stamp_sets (omega arith) (omega arith)

pub date-requires-in-Collection : goal.date-requires-in-Collection
date-requires-in-Collection c = digits_told c.in-Collection.is c.requires 1 6 date_sets (omega arith) (omega arith)

pub date-requires-in-CollectionTime : goal.date-requires-in-CollectionTime
date-requires-in-CollectionTime c = digits_told c.in-CollectionTime.is c.requires 1 6 stamp_sets (omega arith) (omega arith)

pub time-requires-in-CollectionTime : goal.time-requires-in-CollectionTime
time-requires-in-CollectionTime c = digits_told c.in-CollectionTime.is c.requires 7 4 stamp_sets (omega arith) (omega arith)

pub date-requires-in-Production : goal.date-requires-in-Production
date-requires-in-Production c = digits_told c.in-Production.is c.requires 1 6 date_sets (omega arith) (omega arith)

pub date-requires-in-ProductionTime : goal.date-requires-in-ProductionTime
date-requires-in-ProductionTime c = digits_told c.in-ProductionTime.is c.requires 1 6 stamp_sets (omega arith) (omega arith)

pub time-requires-in-ProductionTime : goal.time-requires-in-ProductionTime
time-requires-in-ProductionTime c = digits_told c.in-ProductionTime.is c.requires 7 4 stamp_sets (omega arith) (omega arith)

pub read_digits-requires : goal.read_digits-requires
read_digits-requires c =
    (digits_told c.in-Antigens.is c.requires 1 18 (decimal_sets 18) (omega arith) (omega arith), omega arith)

pub flexible-requires : goal.flexible-requires
flexible-requires c = digits_told c.in-Flexible.is c.requires 1 16 flexible_sets (omega arith) (omega arith)

pub antigens_2001-requires : goal.antigens_2001-requires
antigens_2001-requires c = front_told c.in-Antigens2001.is c.requires
