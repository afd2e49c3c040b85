-- What the contracts of `requests` cite: what a request is.
pub mod Requests
