-- `Laws` what specs/Laws.antt says. Below it: `Places` the text from a place on, `Numbers` and `InForm`
-- that a number and a line are taken off a text exactly where they stand, `Lines` the lines of a text
-- one by one, `Turns` the turns of `read_list`.
mod Places
mod Numbers
mod InForm
mod Lines
pub mod Laws
mod Turns
pub mod Linked
