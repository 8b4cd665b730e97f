-- Tests that are read or run one after another.
use Rattle.std.proofs.Common.{◌≡◌, ℕ, ◌+◌, ◌<◌, List, [], ◌∷◌, ◌++◌, Result, Ok, Err, get_or, length, map, take, sym, subst, ◌∙◌, ap}
use Rattle.std.proofs.lemmas.List.{map-append, take_more}
use Rattle.filter_code.specs.CodeView.{CodeView}
use Rattle.filter_checks.specs.Files.{TestView, test_view}
use Rattle.filter_checks.specs.Testing.{AreRun, IsRun}
use Rattle.filter_checks.specs.declared.test_file.TestFileFault.{TestFileFault}
use Rattle.filter_checks.specs.declared.test_file.Test.{Test}
use Rattle.filter_checks.specs.declared.testing.RanTest.{RanTest}

-- tests before what is read of the rest
abbrev pub behind : List TestView → Result (List TestView) TestFileFault → Result (List TestView) TestFileFault
behind done (Ok more) = Ok (done ++ more)
behind done (Err why) = Err why

-- one run more
one_run : (program : CodeView) (size limit : ℕ) (tests : List TestView) (all : List RanTest) (test : TestView) (ran : RanTest)
    → AreRun program size limit tests all → IsRun program size limit test ran → AreRun program size limit (tests ++ (test ∷ [])) (all ++ (ran ∷ []))
one_run program size limit [] [] test ran are is = (is, tt)
one_run program size limit (t ∷ ts) (r ∷ rs) test ran are is = (are.0, one_run program size limit ts rs test ran are.1 is)
one_run program size limit [] (r ∷ rs) test ran are is = absurd are
one_run program size limit (t ∷ ts) [] test ran are is = absurd are

pub more_run : (program : CodeView) (size limit : ℕ) (tests : List Test) (i : ℕ) (test : Test) (all now : List RanTest) (ran : RanTest) → i < length tests
    → test ≡ get_or tests i test → now ≡ all ++ (ran ∷ []) → AreRun program size limit (map test_view (take i tests)) all
    → IsRun program size limit (test_view test) ran → AreRun program size limit (map test_view (take (i + 1) tests)) now
more_run program size limit tests i test all now ran low is grown are is_run =
    let longer : take (i + 1) tests ≡ take i tests ++ (test ∷ []) = take_more tests i test low ∙ ap (λ (t : Test). take i tests ++ (t ∷ [])) (sym is) in
    let viewed : map test_view (take (i + 1) tests) ≡ map test_view (take i tests) ++ (test_view test ∷ []) =
    ap (map test_view) longer ∙ map-append test_view (take i tests) (test ∷ []) in
    subst (λ (ts : List TestView). AreRun program size limit ts now) (sym viewed)
    (subst (AreRun program size limit (map test_view (take i tests) ++ (test_view test ∷ []))) (sym grown)
    (one_run program size limit (map test_view (take i tests)) all (test_view test) ran are is_run))
