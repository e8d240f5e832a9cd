-- What each kind of step does to the views of seats.
use Rattle.std.specs.Prelude.{◌+◌, true, false, List, [], ◌∷◌, ◌++◌}
use Rattle.wc_model.specs.declared.entries.Entry.{Entry}
use Rattle.wc_pass.specs.declared.views.Old.{Old}
use Rattle.wc_pass.specs.declared.views.View.{View}
use Rattle.wc_pass.specs.Known.{longer}

-- the first seat is the pen's, and has seen nothing
abbrev pub first_view : View
first_view = record { seen = []; pen = true; made = 0; session = 0; olds = [] }

-- a seat that was taken in
abbrev pub spent_view : View
spent_view = record { seen = []; pen = false; made = 0; session = 0; olds = [] }

abbrev pub added : View → Entry → View
added v e = record v { seen = v.seen ++ e ∷ [] }

abbrev pub cleared : View → View
cleared v = record v { olds = [] }

abbrev pub one_more : View → View
one_more v = record v { made = v.made + 1 }

abbrev pub new_pass : View → View
new_pass v = record { seen = v.seen; pen = false; made = 0; session = v.made + 1; olds = [] }

abbrev pub copy_of : View → View
copy_of v = record { seen = v.seen; pen = false; made = 0; session = 0; olds = [] }

abbrev pub without_role : View → View
without_role v = record v { pen = false; made = 0 }

abbrev pub role_of : View → View
role_of v = record { seen = v.seen; pen = true; made = v.made; session = 0; olds = [] }

abbrev pub mine : List Entry → Old
mine list = record { own = true; list = list }

abbrev pub other : List Entry → Old
other list = record { own = false; list = list }

abbrev pub with_copy : View → View → View
with_copy v w = record v { seen = longer v.seen w.seen; olds = mine v.seen ∷ other w.seen ∷ [] }

abbrev pub with_role : View → View → View
with_role v w = record { seen = w.seen; pen = true; made = w.made; session = v.session; olds = mine v.seen ∷ [] }
