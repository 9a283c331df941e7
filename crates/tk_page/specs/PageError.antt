-- The texts of faults.
use Rattle.std.specs.Prelude.{ℕ, List, codes}
use Rattle.tk_page.specs.declared.page_error.PageError.{PageError}
use Rattle.tk_page.specs.declared.page_error.PageError.TheVariants.{Memory}

abbrev pub fault_text : PageError → List ℕ
fault_text Memory = codes "no memory for the page"
