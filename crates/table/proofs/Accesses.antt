-- Two accesses that the code takes for the same have the same number.
use mathlib.Core.Path.{◌≡◌, refl}
use lib.Dec.{eqb}
use denote.Enum.Bare.{sameb}
use Rattle.table.specs.declared.access.Access.{Access}
use Rattle.table.specs.declared.access.Access.TheVariants.{ReadWrite, ReadOnly, WriteOnly}
use Rattle.table.specs.contracts.access.Access.{the_type}
use Rattle.table.specs.Access.{access_number}

pub same_access : (a b : Access) → sameb the_type a b ≡ eqb (access_number a) (access_number b)
unfolding access_number
same_access ReadWrite ReadWrite = refl
same_access ReadWrite ReadOnly = refl
same_access ReadWrite WriteOnly = refl
same_access ReadOnly ReadWrite = refl
same_access ReadOnly ReadOnly = refl
same_access ReadOnly WriteOnly = refl
same_access WriteOnly ReadWrite = refl
same_access WriteOnly ReadOnly = refl
same_access WriteOnly WriteOnly = refl
