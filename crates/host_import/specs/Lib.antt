-- Nothing here is to be believed: what import promises stands in host_record.
pub mod Laws
