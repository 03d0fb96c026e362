-- What stands where there is no donation number and no product code.
use Rattle.label.specs.declared.Donation.{Donation}
use Rattle.label.specs.declared.Product.{Product}

-- 01, keyboard entry: "a number whose parts are all zero"
abbrev pub no_donation : Donation
no_donation = record { sequence = 0; facility = 0; first = 0; year = 0 }

-- and a product code whose parts are all zero
abbrev pub no_product : Product
no_product = record { letter = 0; o0 = 0; o1 = 0; o2 = 0; o3 = 0; t = 0; d = 0; s = 0 }
